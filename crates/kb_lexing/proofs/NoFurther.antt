-- No text of the form begins with more of the bytes.
use Rattle.std.proofs.Common.{◌≡◌, ◌≢◌, ℕ, ◌+◌, ◌≤◌, ◌⊎◌, inl, inr, List, [], ◌∷◌, ◌++◌, length, refl, sym, ap, ◌∙◌, subst, arith, length-append, append_assoc}
use Rattle.std.proofs.lemmas.Bool.{cases_eq}
use Rattle.std.proofs.lemmas.List.{append-nil, append_cancel_left}
use Rattle.kb_lexing.specs.Token.{Token, name, dots, rec_word}
use Rattle.kb_lexing.specs.Spelling.{BeginsWithNameByte, Spells, FirstToken, TokensOf, after_gap}
use Rattle.kb_lexing.specs.Lexemes.{IsLongestFront, GoesOnAt}
use Rattle.kb_lexing.specs.Possible.{IsSpelled, AreSpelled, IsBegun, IsExpected, IsMark, Stops, BeginsExpected}
use Rattle.kb_lexing.specs.declared.place.Expected.{Expected}
use Rattle.kb_lexing.specs.declared.place.Expected.TheVariants as variant
use Rattle.kb_lexing.proofs.Begun.{begins_decided}
use Rattle.kb_lexing.proofs.Lexings.{gap_front}
use Rattle.kb_lexing.proofs.TokenFronts.{one_begins}
use Rattle.kb_lexing.proofs.Longer.{IsWord, NoMore, kept_first, alone_first, shared_byte, shared_two, wordless, unshared}
use Rattle.kb_lexing.proofs.PassedTokens.{gap_then, tokens_spelled}
use Rattle.kb_lexing.proofs.LastTokens.{dotted_first}
use Rattle.kb_lexing.proofs.ExpectedTokens.{DotsNext, dots_next, word_decided, mark_plain, mark_byte, word_expected}

-- a dot goes on with nothing where no name byte follows
pub dot_ends : (token : Token) (rest bytes : List ℕ) → ¬ BeginsWithNameByte bytes → NoMore token rest (46 ∷ bytes)
dot_ends token rest bytes none = unshared token rest (46 ∷ bytes) goes (λ digit. omega arith)
  where
    goes : ¬ GoesOnAt (46 ∷ bytes)
    goes (inl h) = omega arith
    goes (inr h) = none h.1

pub next_begun : (HasForm : List Token → Type 0) (passed : List Token) (token : Token) (more : List Token) → HasForm (passed ++ token ∷ more) → AreSpelled more
    → IsBegun HasForm (passed ++ token ∷ [])
next_begun HasForm passed token more formed spelled = record {
  more = more;
  formed = subst (λ x. HasForm x) (sym (append_assoc passed (token ∷ []) more)) formed;
  spelled = spelled;
}

module _ (HasForm : List Token → Type 0) (passed : List Token) (rest : List ℕ) (expected : Expected) (stops : Stops HasForm passed expected rest) where
  module _ (b : ℕ) (front tail behind : List ℕ) (split : after_gap rest ≡ (b ∷ front) ++ tail) (token : Token) (back : List ℕ) (more : List Token)
      (first : FirstToken ((b ∷ front) ++ behind) token back) (tokens : TokensOf back more) (formed : HasForm (passed ++ token ∷ more)) where
    begun : IsBegun HasForm (passed ++ token ∷ [])
    begun = next_begun HasForm passed token more formed (tokens_spelled back more tokens)

    -- the token doesn't begin the rest of the bytes
    not_next : (text other : List ℕ) → after_gap rest ≡ text → FirstToken text token other → ⊥
    not_next text other e k = stops.stops token other (subst (λ x. FirstToken x token other) (sym e) k) begun

    rest_split : (more : List ℕ) → b ∷ front ≡ first.spelling ++ more → after_gap rest ≡ first.spelling ++ (more ++ tail)
    rest_split more e = split ∙ ap (λ x. x ++ tail) e ∙ append_assoc first.spelling more tail

    mark_ends : IsMark token → ⊥
    mark_ends mark = go (one_begins (b ∷ front) first.spelling behind back first.whole)
      where
        one : length first.spelling ≡ 1
        one = mark_byte token first.spelling mark first.spelled

        ends : (more : List ℕ) → b ∷ front ≡ first.spelling ++ more → ⊥
        ends more e =
            not_next (first.spelling ++ (more ++ tail)) (more ++ tail) (rest_split more e)
            (alone_first token first.spelling (more ++ tail) first.spelled (mark_plain token mark).0 (mark_plain token mark).1)

        behind_it : (extra : List ℕ) → first.spelling ≡ (b ∷ front) ++ extra → ⊥
        behind_it [] e = ends [] (sym (append-nil (b ∷ front)) ∙ sym e ∙ sym (append-nil first.spelling))
        behind_it (c ∷ extra) e = omega (arith, one, ap length e, length-append front (c ∷ extra))

        go : ((more : List ℕ) × (b ∷ front ≡ first.spelling ++ more)) ⊎ ((extra : List ℕ) × (first.spelling ≡ (b ∷ front) ++ extra)) → ⊥
        go (inl begins) = ends begins.0 begins.1
        go (inr begins) = behind_it begins.0 begins.1

    -- an expected token that ends before the front does
    module _ (is : IsExpected expected token) (c : ℕ) (more_front : List ℕ) (whole : b ∷ front ≡ first.spelling ++ c ∷ more_front) where
      follows : back ≡ (c ∷ more_front) ++ behind
      follows =
          append_cancel_left first.spelling back ((c ∷ more_front) ++ behind)
          (sym first.whole ∙ ap (λ x. x ++ behind) whole ∙ append_assoc first.spelling (c ∷ more_front) behind)

      apart : NoMore token ((c ∷ more_front) ++ behind) ((c ∷ more_front) ++ tail) → ⊥
      apart no_more =
          not_next (first.spelling ++ ((c ∷ more_front) ++ tail)) ((c ∷ more_front) ++ tail) (rest_split (c ∷ more_front) whole)
          (kept_first ((b ∷ front) ++ behind) token back ((c ∷ more_front) ++ tail) first (subst (λ x. NoMore token x ((c ∷ more_front) ++ tail)) (sym follows) no_more))

      -- a dot and a name byte would go on with it
      dotted : c ≡ 46 → more_front ≡ [] → IsWord token → BeginsWithNameByte tail → ⊥
      dotted at none one name_byte = go (word_expected expected token is one)
        where
          named : ((text : List ℕ) → IsExpected expected (name text)) → ⊥
          named each =
              let longer = dotted_first token first.spelling tail first.spelled one name_byte in
              let e : after_gap rest ≡ first.spelling ++ 46 ∷ tail = rest_split (c ∷ more_front) whole ∙ (let k = at in let l = none in cc) in
              let is_spelled : IsSpelled (name longer.spelling) = (longer.first.spelling, longer.first.spelled) in
              stops.stops (name longer.spelling) longer.back (subst (λ x. FirstToken x (name longer.spelling) longer.back) (sym e) longer.first)
              (stops.expects (name longer.spelling) (each longer.spelling) is_spelled)

          go : ((text : List ℕ) → IsExpected expected (name text)) ⊎ ((expected ≡ variant.Rec) × (token ≡ rec_word)) → ⊥
          go (inl each) = named each
          go (inr (rec_expected, same)) =
              let text : back ≡ 46 ∷ behind = follows ∙ (let k = at in let l = none in cc) in
              let next : DotsNext more = dots_next behind more (subst (λ x. TokensOf x more) text tokens) in
              stops.no_dots_behind_rec rec_expected (record {
                more = next.more;
                formed = subst (λ x. HasForm x) (ap (λ x. passed ++ x ∷ more) same ∙ ap (λ x. passed ++ rec_word ∷ x) next.whole ∙ sym (append_assoc passed (rec_word ∷ dots ∷ []) next.more)) formed;
                spelled = next.spelled;
              })

      shorter : ⊥
      shorter = go more_front refl (cases_eq c 46) (word_decided token) (begins_decided tail)
        where
          go : (others : List ℕ) → more_front ≡ others → (c ≡ 46) ⊎ (c ≢ 46) → IsWord token ⊎ ¬ IsWord token → BeginsWithNameByte tail ⊎ ¬ BeginsWithNameByte tail → ⊥
          go (d ∷ others) e _ _ _ = apart (subst (λ x. NoMore token ((c ∷ x) ++ behind) ((c ∷ x) ++ tail)) (sym e) (shared_two token c d (others ++ behind) (others ++ tail)))
          go [] e (inr other) _ _ = apart (shared_byte token c (more_front ++ behind) (more_front ++ tail) other)
          go [] e (inl at) (inr no_word) _ = apart (wordless token c (more_front ++ behind) (more_front ++ tail) no_word)
          go [] e (inl at) (inl one) (inr no_byte) =
              let text : (c ∷ more_front) ++ tail ≡ 46 ∷ tail = let k = e in cc in
              apart (subst (λ x. NoMore token ((c ∷ more_front) ++ behind) x) (sym text) (dot_ends token ((c ∷ more_front) ++ behind) tail no_byte))
          go [] e (inl at) (inl one) (inl name_byte) = dotted at e one name_byte

    module _ (n : ℕ) (longest : IsLongestFront (BeginsExpected expected) (after_gap rest) n) where
      expected_within : IsExpected expected token → length (b ∷ front) ≤ n
      expected_within is = go (one_begins (b ∷ front) first.spelling behind back first.whole)
        where
          begins_it : (extra : List ℕ) → first.spelling ≡ (b ∷ front) ++ extra → length (b ∷ front) ≤ n
          begins_it extra e = longest.longest (b ∷ front) tail (inr (token, extra, is, subst (λ x. Spells token x) e first.spelled)) split

          go : ((more : List ℕ) × (b ∷ front ≡ first.spelling ++ more)) ⊎ ((extra : List ℕ) × (first.spelling ≡ (b ∷ front) ++ extra)) → length (b ∷ front) ≤ n
          go (inl ([], e)) = begins_it [] (sym (append-nil first.spelling) ∙ sym e ∙ sym (append-nil (b ∷ front)))
          go (inl (c ∷ others, e)) = absurd (shorter is c others e)
          go (inr begins) = begins_it begins.0 begins.1

      pub token_within : length (b ∷ front) ≤ n
      token_within = go (stops.expected_alone token begun)
        where
          go : IsExpected expected token ⊎ IsMark token → length (b ∷ front) ≤ n
          go (inl is) = expected_within is
          go (inr mark) = absurd (mark_ends mark)

  -- the tokens behind those that were passed
  pub no_further : (n : ℕ) → IsLongestFront (BeginsExpected expected) (after_gap rest) n → (front tail behind : List ℕ) (tokens : List Token) → rest ≡ front ++ tail
      → TokensOf (front ++ behind) tokens → HasForm (passed ++ tokens) → length front ≤ length (gap_front rest).front + n
  no_further n longest front tail behind tokens e h formed =
      go (one_begins gap front (after_gap rest) tail (sym (gap_front rest).whole ∙ e))
    where
      gap : List ℕ
      gap = (gap_front rest).front

      past : (b : ℕ) (extra : List ℕ) (tokens : List Token) → front ≡ gap ++ (b ∷ extra) → TokensOf (front ++ behind) tokens → HasForm (passed ++ tokens) → length (b ∷ extra) ≤ n
      past b extra tokens begins h formed = with_tokens tokens h formed
        where
          split : after_gap rest ≡ (b ∷ extra) ++ tail
          split =
              append_cancel_left gap (after_gap rest) ((b ∷ extra) ++ tail)
              (sym (gap_front rest).whole ∙ e ∙ ap (λ x. x ++ tail) begins ∙ append_assoc gap (b ∷ extra) tail)

          stays : after_gap (front ++ behind) ≡ (b ∷ extra) ++ behind
          stays = ap (λ x. after_gap (x ++ behind)) begins ∙ ap after_gap (append_assoc gap (b ∷ extra) behind) ∙ gap_then rest (b ∷ extra) tail behind (omega arith) split

          with_tokens : (tokens : List Token) → TokensOf (front ++ behind) tokens → HasForm (passed ++ tokens) → length (b ∷ extra) ≤ n
          with_tokens [] h formed = absurd (let k = sym stays ∙ h in cc)
          with_tokens (token ∷ more) h formed =
              token_within b extra tail behind split token h.0 more (subst (λ x. FirstToken x token h.0) stays h.1) h.2 formed n longest

      beyond : (extra : List ℕ) → front ≡ gap ++ extra → length front ≤ length gap + n
      beyond [] begins = omega (arith, ap length begins, length-append gap [])
      beyond (b ∷ extra) begins = omega (arith, past b extra tokens begins h formed, ap length begins, length-append gap (b ∷ extra))

      go : ((more : List ℕ) × (gap ≡ front ++ more)) ⊎ ((extra : List ℕ) × (front ≡ gap ++ extra)) → length front ≤ length gap + n
      go (inl begins) = omega (arith, ap length begins.1, length-append front begins.0)
      go (inr begins) = beyond begins.0 begins.1
