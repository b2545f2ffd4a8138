-- A front whose last token is a bracket: the whole text begins with its tokens.
use Rattle.std.proofs.Common.{◌≡◌, ◌≢◌, ℕ, suc, ◌≤◌, ◌⊎◌, inl, inr, List, [], ◌∷◌, ◌++◌, length, refl, sym, ap, ◌∙◌, subst, arith, length-append, append_assoc}
use Rattle.std.specs.List.{AllByRecursion}
use Rattle.std.proofs.lemmas.Bool.{cases_eq}
use Rattle.kb_lexing.specs.Token.{Token, name, number, string, assign, open_round, close_round, open_square, close_square, comma, semicolon, star, caret, dots, rec_word}
use Rattle.kb_lexing.specs.Spelling.{IsDigit, IsNameByte, BeginsWithNameByte, GoesOnAsName, IsStringByte, Spells, FirstToken, TokensOf, after_gap}
use Rattle.kb_lexing.specs.Lexemes.{IsBracket, EndsInBracket}
use Rattle.kb_lexing.proofs.FirstTokens.{Kind, word, digits, negative, quoted, assigns, ranges, single, kind_of, quoted_only, spells_some, same_head, same_tail}
use Rattle.kb_lexing.proofs.OneToken.{AreSame, one_token, first_some}
use Rattle.kb_lexing.proofs.Lexings.{Front, gap_front}

-- `(` `)` `[` `]`
abbrev pub IsBracketByte : ℕ → Type 0
IsBracketByte b = (b ≡ 40) ⊎ ((b ≡ 41) ⊎ ((b ≡ 91) ⊎ (b ≡ 93)))

-- what is no string has a bracket only as its one byte
no_bracket_in_name : (more front back : List ℕ) (c : ℕ) → GoesOnAsName more → IsBracketByte c → more ≡ front ++ c ∷ back → ⊥
no_bracket_in_name [] [] back c goes bracket e = cc
no_bracket_in_name [] (d ∷ front) back c goes bracket e = cc
no_bracket_in_name (b ∷ more) [] back c goes bracket e = go goes.0 (same_head e)
  where
    go : IsNameByte b ⊎ ((b ≡ 46) × BeginsWithNameByte more) → b ≡ c → ⊥
    go (inl h) at = omega arith
    go (inr h) at = omega (arith, h.0)
no_bracket_in_name (b ∷ more) (d ∷ front) back c goes bracket e = no_bracket_in_name more front back c goes.1 bracket (same_tail e)

no_bracket_in_digits : (more front back : List ℕ) (c : ℕ) → AllByRecursion IsDigit more → IsBracketByte c → more ≡ front ++ c ∷ back → ⊥
no_bracket_in_digits [] [] back c each bracket e = cc
no_bracket_in_digits [] (d ∷ front) back c each bracket e = cc
no_bracket_in_digits (b ∷ more) [] back c each bracket e = let at = same_head e in omega (arith, each.0)
no_bracket_in_digits (b ∷ more) (d ∷ front) back c each bracket e = no_bracket_in_digits more front back c each.1 bracket (same_tail e)

no_bracket_behind : (b : ℕ) (more front back : List ℕ) (c : ℕ) → Kind b more → b ≢ 34 → IsBracketByte c → more ≡ front ++ c ∷ back → ⊥
no_bracket_behind b more front back c (word at goes) other bracket e = no_bracket_in_name more front back c goes bracket e
no_bracket_behind b more front back c (digits at each few) other bracket e = no_bracket_in_digits more front back c each bracket e
no_bracket_behind b more front back c (negative at each some few) other bracket e = no_bracket_in_digits more front back c each bracket e
no_bracket_behind b more front back c (quoted text at whole each) other bracket e = other at
no_bracket_behind b more [] back c (assigns at whole) other bracket e = let k = same_head (sym e ∙ whole) in omega arith
no_bracket_behind b more (d ∷ front) back c (assigns at whole) other bracket e = let k = ap length (sym e ∙ whole) in omega (arith, length-append front (c ∷ back))
no_bracket_behind b more [] back c (ranges at whole) other bracket e = let k = same_head (sym e ∙ whole) in omega arith
no_bracket_behind b more (d ∷ front) back c (ranges at whole) other bracket e = let k = ap length (sym e ∙ whole) in omega (arith, length-append front (c ∷ back))
no_bracket_behind b more front back c (single at whole) other bracket e = let k = ap length (sym e ∙ whole) in omega (arith, length-append front (c ∷ back))

-- what spells a bracket is one byte
data Spelled (token : Token) (spelling : List ℕ) : Type 0 where
  bracket_is : (c : ℕ) → IsBracketByte c → spelling ≡ c ∷ [] → Spelled token spelling

bracket_spelled : (token : Token) (spelling : List ℕ) → IsBracket token → Spells token spelling → Spelled token spelling
bracket_spelled open_round spelling bracket h = bracket_is 40 (inl refl) h
bracket_spelled close_round spelling bracket h = bracket_is 41 (inr (inl refl)) h
bracket_spelled open_square spelling bracket h = bracket_is 91 (inr (inr (inl refl))) h
bracket_spelled close_square spelling bracket h = bracket_is 93 (inr (inr (inr refl))) h
bracket_spelled (name text) spelling bracket h = absurd bracket
bracket_spelled (number z) spelling bracket h = absurd bracket
bracket_spelled (string text) spelling bracket h = absurd bracket
bracket_spelled assign spelling bracket h = absurd bracket
bracket_spelled comma spelling bracket h = absurd bracket
bracket_spelled semicolon spelling bracket h = absurd bracket
bracket_spelled star spelling bracket h = absurd bracket
bracket_spelled caret spelling bracket h = absurd bracket
bracket_spelled dots spelling bracket h = absurd bracket
bracket_spelled rec_word spelling bracket h = absurd bracket

-- a bracket stands in the bytes
record HasBracket (bytes : List ℕ) : Type 0 where
  before : List ℕ
  byte : ℕ
  after : List ℕ
  bracket : IsBracketByte byte
  whole : bytes ≡ before ++ byte ∷ after

behind_front : (front bytes rest : List ℕ) → bytes ≡ front ++ rest → HasBracket rest → HasBracket bytes
behind_front front bytes rest e h = record {
  before = front ++ h.before;
  byte = h.byte;
  after = h.after;
  bracket = h.bracket;
  whole = e ∙ ap (λ x. front ++ x) h.whole ∙ sym (append_assoc front h.before (h.byte ∷ h.after));
}

bracket_at : (token : Token) (spelling rest bytes : List ℕ) → bytes ≡ spelling ++ rest → Spelled token spelling → HasBracket bytes
bracket_at token spelling rest bytes e (bracket_is c bracket one) = record {
  before = [];
  byte = c;
  after = rest;
  bracket = bracket;
  whole = e ∙ ap (λ x. x ++ rest) one;
}

has_bracket : (tokens : List Token) (bytes : List ℕ) → EndsInBracket tokens → TokensOf bytes tokens → HasBracket bytes
has_bracket [] bytes ends h = absurd ends
has_bracket (token ∷ []) bytes ends h =
    behind_front (gap_front bytes).front bytes (after_gap bytes) (gap_front bytes).whole
    (bracket_at token h.1.spelling h.0 (after_gap bytes) h.1.whole (bracket_spelled token h.1.spelling ends h.1.spelled))
has_bracket (token ∷ next ∷ tokens) bytes ends h =
    behind_front (gap_front bytes).front bytes (after_gap bytes) (gap_front bytes).whole
    (behind_front h.1.spelling (after_gap bytes) h.0 h.1.whole (has_bracket (next ∷ tokens) h.0 ends h.2))

-- two strings that begin a text are one
pub one_close : (text other rest back : List ℕ) → AllByRecursion IsStringByte text → AllByRecursion IsStringByte other → text ++ (34 ∷ rest) ≡ other ++ (34 ∷ back) → rest ≡ back
one_close [] [] rest back each all e = same_tail e
one_close [] (d ∷ other) rest back each all e = absurd (all.0.2 (sym (same_head e)))
one_close (c ∷ text) [] rest back each all e = absurd (each.0.2 (same_head e))
one_close (c ∷ text) (d ∷ other) rest back each all e = one_close text other rest back each.1 all.1 (same_tail e)

-- a longer spelling than the token's ends before the bracket
no_longer : (b : ℕ) (more rest extra other : List ℕ) → Kind b more → Kind b other → HasBracket rest → other ≡ more ++ (rest ++ extra) → ⊥
no_longer b more rest extra other kind longer h e = go (cases_eq b 34)
  where
    go : (b ≡ 34) ⊎ (b ≡ 34 → ⊥) → ⊥
    go (inl at) =
        let short = quoted_only b more at kind in
        let long = quoted_only b other at longer in
        let split : short.0 ++ (34 ∷ (rest ++ extra)) ≡ long.0 ++ (34 ∷ []) =
        sym (append_assoc short.0 (34 ∷ []) (rest ++ extra)) ∙ ap (λ x. x ++ (rest ++ extra)) (sym short.1) ∙ sym e ∙ long.1 in
        let none = ap length (one_close short.0 long.0 (rest ++ extra) [] short.2 long.2 split) in
        omega (arith, length-append rest extra, ap length h.whole, length-append h.before (h.byte ∷ h.after))
    go (inr other_byte) =
        let split : other ≡ (more ++ h.before) ++ h.byte ∷ (h.after ++ extra) =
        e ∙ ap (λ x. more ++ (x ++ extra)) h.whole ∙ ap (λ x. more ++ x) (append_assoc h.before (h.byte ∷ h.after) extra) ∙ sym (append_assoc more h.before (h.byte ∷ h.after ++ extra)) in
        no_bracket_behind b other (more ++ h.before) (h.after ++ extra) h.byte longer other_byte h.bracket split

-- a bracket alone is never longer
no_longer_bracket : (b : ℕ) (other : List ℕ) → IsBracketByte b → Kind b other → other ≡ []
no_longer_bracket b other bracket (word at goes) = absurd (omega arith)
no_longer_bracket b other bracket (digits at each few) = absurd (omega arith)
no_longer_bracket b other bracket (negative at each some few) = absurd (omega arith)
no_longer_bracket b other bracket (quoted text at whole each) = absurd (omega arith)
no_longer_bracket b other bracket (assigns at whole) = absurd (omega arith)
no_longer_bracket b other bracket (ranges at whole) = absurd (omega arith)
no_longer_bracket b other bracket (single at whole) = whole

-- of two fronts of one text, one begins with the other
pub one_begins : (xs ys bs cs : List ℕ) → xs ++ bs ≡ ys ++ cs → ((tail : List ℕ) × (xs ≡ ys ++ tail)) ⊎ ((extra : List ℕ) × (ys ≡ xs ++ extra))
one_begins [] ys bs cs e = inr (ys, refl)
one_begins (x ∷ xs) [] bs cs e = inl (x ∷ xs, refl)
one_begins (x ∷ xs) (y ∷ ys) bs cs e = up (same_head e) (one_begins xs ys bs cs (same_tail e))
  where
    up : x ≡ y → ((tail : List ℕ) × (xs ≡ ys ++ tail)) ⊎ ((extra : List ℕ) × (ys ≡ xs ++ extra))
        → ((tail : List ℕ) × (x ∷ xs ≡ (y ∷ ys) ++ tail)) ⊎ ((extra : List ℕ) × (y ∷ ys ≡ (x ∷ xs) ++ extra))
    up at (inl h) = inl (h.0, (let k = h.1 in cc))
    up at (inr h) = inr (h.0, (let k = h.1 in cc))

-- the token is no longer in a longer text
module _ (token : Token) (b : ℕ) (more rest behind : List ℕ) (spelled : Spells token (b ∷ more)) (closed : IsBracket token ⊎ HasBracket rest)
    (longest : (other : Token) (front tail : List ℕ) → Spells other front → (b ∷ more) ++ rest ≡ front ++ tail → length front ≤ suc (length more)) where
  not_longer : (other : Token) (d : ℕ) (front extra : List ℕ) → Spells other (d ∷ front) → b ≡ d → front ≡ (more ++ rest) ++ extra → length front ≤ length more
  not_longer other d front extra h at e = go closed
    where
      longer : Kind b front
      longer = subst (λ x. Kind x front) (sym at) (kind_of other d front h)

      one_byte : Spelled token (b ∷ more) → length front ≤ length more
      one_byte (bracket_is c bracket one) = omega (arith, ap length (no_longer_bracket b front (subst (λ x. IsBracketByte x) (sym (same_head one)) bracket) longer))

      go : IsBracket token ⊎ HasBracket rest → length front ≤ length more
      go (inl bracket) = one_byte (bracket_spelled token (b ∷ more) bracket spelled)
      go (inr bracket) = absurd (no_longer b more rest extra front (kind_of token b more spelled) longer bracket (e ∙ append_assoc more rest extra))

  still_longest : (other : Token) (front tail : List ℕ) → Spells other front → (b ∷ more) ++ rest ++ behind ≡ front ++ tail → length front ≤ suc (length more)
  still_longest other [] tail h e = omega arith
  still_longest other (d ∷ front) tail h e = go (one_begins (more ++ rest) front behind tail (same_tail e))
    where
      at : b ≡ d
      at = same_head e

      go : ((tail : List ℕ) × (more ++ rest ≡ front ++ tail)) ⊎ ((extra : List ℕ) × (front ≡ (more ++ rest) ++ extra)) → suc (length front) ≤ suc (length more)
      go (inl k) = longest other (d ∷ front) k.0 h (let begins = k.1 in cc)
      go (inr k) = omega (arith, not_longer other d front k.0 h at k.1)

keep_first : (bytes : List ℕ) (token : Token) (rest behind : List ℕ) → FirstToken bytes token rest → IsBracket token ⊎ HasBracket rest → FirstToken (bytes ++ behind) token (rest ++ behind)
keep_first bytes token rest behind h closed = go h.spelling h.spelled h.whole h.longest
  where
    go : (spelling : List ℕ) → Spells token spelling → bytes ≡ spelling ++ rest
        → ((other : Token) (front tail : List ℕ) → Spells other front → bytes ≡ front ++ tail → length front ≤ length spelling) → FirstToken (bytes ++ behind) token (rest ++ behind)
    go [] spelled whole longest = absurd (spells_some token spelled)
    go (b ∷ more) spelled whole longest = record {
      spelling = b ∷ more;
      spelled = spelled;
      whole = ap (λ x. x ++ behind) whole ∙ append_assoc (b ∷ more) rest behind;
      longest = λ other front tail k e.
          still_longest token b more rest behind spelled closed (λ one start end s w. longest one start end s (whole ∙ w)) other front tail k (ap (λ x. x ++ behind) (sym whole) ∙ e);
    }

-- what follows a gap, with more behind
keep_gap : (front behind : List ℕ) → after_gap front ≢ [] → after_gap (front ++ behind) ≡ after_gap front ++ behind
keep_gap front behind some = go (after_gap front) refl
  where
    gap : Front after_gap front
    gap = gap_front front

    go : (rest : List ℕ) → after_gap front ≡ rest → after_gap (front ++ behind) ≡ after_gap front ++ behind
    go [] e = absurd (some e)
    go (b ∷ more) e =
        let split : front ++ behind ≡ gap.front ++ b ∷ (more ++ behind) =
        ap (λ x. x ++ behind) (gap.whole ∙ ap (λ x. gap.front ++ x) e) ∙ append_assoc gap.front (b ∷ more) behind in
        ap after_gap split ∙ gap.stays b more (more ++ behind) e ∙ ap (λ x. x ++ behind) (sym e)

closed_by : (token : Token) (tokens : List Token) (rest : List ℕ) → EndsInBracket (token ∷ tokens) → TokensOf rest tokens → IsBracket token ⊎ HasBracket rest
closed_by token [] rest ends h = inl ends
closed_by token (next ∷ tokens) rest ends h = inr (has_bracket (next ∷ tokens) rest ends h)

same_first : (front behind : List ℕ) (token other : Token) (rest back : List ℕ) → FirstToken (after_gap front) token rest → IsBracket token ⊎ HasBracket rest
    → FirstToken (after_gap (front ++ behind)) other back → AreSame token other (rest ++ behind) back
same_first front behind token other rest back h closed k =
    let gap = keep_gap front behind (first_some (after_gap front) token rest h) in
    one_token (after_gap front ++ behind) token other (rest ++ behind) back (keep_first (after_gap front) token rest behind h closed)
    (subst (λ x. FirstToken x other back) gap k)

pub front_tokens : (front behind : List ℕ) (tokens others : List Token) → EndsInBracket tokens → TokensOf front tokens → TokensOf (front ++ behind) others
    → (more : List Token) × (others ≡ tokens ++ more)
front_tokens front behind [] others ends h k = absurd ends
front_tokens front behind (token ∷ tokens) [] ends h k =
    let some = first_some (after_gap front) token h.0 h.1 in
    absurd (first_some (after_gap front ++ behind) token (h.0 ++ behind) (keep_first (after_gap front) token h.0 behind h.1 (closed_by token tokens h.0 ends h.2)) (sym (keep_gap front behind some) ∙ k))
front_tokens front behind (token ∷ []) (other ∷ others) ends h k =
    let same = same_first front behind token other h.0 k.0 h.1 (inl ends) k.1 in
    (others, ap (λ x. x ∷ others) (sym same.token_same))
front_tokens front behind (token ∷ next ∷ tokens) (other ∷ others) ends h k =
    let same = same_first front behind token other h.0 k.0 h.1 (inr (has_bracket (next ∷ tokens) h.0 ends h.2)) k.1 in
    let more = front_tokens h.0 behind (next ∷ tokens) others ends h.2 (subst (λ x. TokensOf x others) (sym same.rest_same) k.2) in
    (more.0, ap (λ x. x ∷ others) (sym same.token_same) ∙ ap (λ x. token ∷ x) more.1)
