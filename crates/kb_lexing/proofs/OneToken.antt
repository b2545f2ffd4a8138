-- A text begins with one token at most, and has one list of tokens.
use Rattle.std.proofs.Common.{◌≡◌, ◌≢◌, ℕ, ◌-◌, inl, inr, Bool, true, false, cond, ◌&&◌, ◌||◌, ℤ, pos, List, [], ◌∷◌, ◌++◌, length, take, drop, refl, sym, ap, ◌∙◌, subst, arith, length-append}
use Rattle.std.specs.Prelude.{codes, ◌==◌}
use Rattle.std.specs.Char.{is_ascii_digit, is_ascii_alphabetic}
use Rattle.std.proofs.lemmas.List.{take_at, drop_at}
use Rattle.std.proofs.lemmas.Bool.{and_parts, eqb-true}
use Rattle.std.proofs.lemmas.Bool.Decides.{nat_tests}
use Rattle.kb_lexing.specs.Token.{Token, name, number, string, assign, open_round, close_round, open_square, close_square, comma, semicolon, star, caret, dots, rec_word}
use Rattle.kb_lexing.specs.Spelling.{IsDigit, BeginsNames, IsName, AreDigits, IsNumber, Spells, FirstToken, TokensOf, after_gap, value_after, opposite}
use Rattle.kb_lexing.proofs.FirstTokens.{spells_some}

abbrev names_begin : ℕ → Bool
names_begin b = is_ascii_alphabetic b || (b == 95)

abbrev is_rec : List ℕ → Bool
is_rec (a ∷ b ∷ c ∷ []) = (a == 114) && ((b == 101) && (c == 99))
is_rec _ = false

-- the token that bytes spell, if they spell one
abbrev reading : List ℕ → Token
reading [] = comma
reading (b ∷ more) =
    cond (names_begin b) (cond (is_rec (b ∷ more)) rec_word (name (b ∷ more)))
    (cond (is_ascii_digit b) (number (pos (value_after 0 (b ∷ more))))
    (cond (b == 45) (number (opposite (value_after 0 more)))
    (cond (b == 34) (string (take (length more - 1) more))
    (cond (b == 58) assign (cond (b == 46) dots (cond (b == 40) open_round (cond (b == 41) close_round (cond (b == 91) open_square
    (cond (b == 93) close_square (cond (b == 44) comma (cond (b == 59) semicolon (cond (b == 42) star caret))))))))))))

is_rec-true : (bytes : List ℕ) → is_rec bytes ≡ true → bytes ≡ codes "rec"
is_rec-true (a ∷ b ∷ c ∷ []) e =
    let at = and_parts (a == 114) ((b == 101) && (c == 99)) e in
    let more = and_parts (b == 101) (c == 99) at.1 in
    let x : a ≡ 114 = eqb-true a 114 at.0 in
    let y : b ≡ 101 = eqb-true b 101 more.0 in
    let z : c ≡ 99 = eqb-true c 99 more.1 in
    cc
is_rec-true [] e = absurd cc
is_rec-true (a ∷ []) e = absurd cc
is_rec-true (a ∷ b ∷ []) e = absurd cc
is_rec-true (a ∷ b ∷ c ∷ d ∷ bytes) e = absurd cc

no_rec : (bytes : List ℕ) (t : Bool) → is_rec bytes ≡ t → bytes ≢ codes "rec" → is_rec bytes ≡ false
no_rec bytes true e other = absurd (other (is_rec-true bytes e))
no_rec bytes false e other = e

names_begin-true : (b : ℕ) → BeginsNames b → names_begin b ≡ true
names_begin-true b h = grind (arith, nat_tests)

names_begin-false : (b : ℕ) → IsDigit b → names_begin b ≡ false
names_begin-false b h = grind (arith, nat_tests)

is_digit-true : (b : ℕ) → IsDigit b → is_ascii_digit b ≡ true
is_digit-true b h = grind (arith, nat_tests)

read_name : (text : List ℕ) → IsName text → reading text ≡ name text
read_name [] h = absurd h
read_name (b ∷ more) h = rw (names_begin-true b h.0, no_rec (b ∷ more) (is_rec (b ∷ more)) refl h.2)

read_digits : (bytes : List ℕ) (n : ℕ) → AreDigits bytes n → reading bytes ≡ number (pos n)
read_digits [] n h = absurd (omega (arith, h.some))
read_digits (b ∷ more) n h = rw (names_begin-false b h.each.0, is_digit-true b h.each.0) (ap (λ k. number (pos k)) (sym h.worth))

read_number : (bytes : List ℕ) (z : ℤ) → IsNumber bytes z → reading bytes ≡ number z
read_number bytes z (inl h) = read_digits bytes h.0 h.1 ∙ ap number (sym h.2)
read_number bytes z (inr h) =
    ap reading h.3 ∙ ap (λ k. number (opposite k)) (sym h.2.worth) ∙ ap number (sym h.4)

read_string : (text : List ℕ) → reading (34 ∷ (text ++ 34 ∷ [])) ≡ string text
read_string text =
    let long : length text ≡ length (text ++ 34 ∷ []) - 1 = omega (arith, length-append text (34 ∷ [])) in
    ap string (take_at text (34 ∷ []) (length (text ++ 34 ∷ []) - 1) long)

pub read_spelling : (token : Token) (bytes : List ℕ) → Spells token bytes → reading bytes ≡ token
read_spelling (name text) bytes h = ap reading h.0 ∙ read_name text h.1
read_spelling (number z) bytes h = read_number bytes z h
read_spelling (string text) bytes h = ap reading h.0 ∙ read_string text
read_spelling assign bytes h = ap reading h
read_spelling open_round bytes h = ap reading h
read_spelling close_round bytes h = ap reading h
read_spelling open_square bytes h = ap reading h
read_spelling close_square bytes h = ap reading h
read_spelling comma bytes h = ap reading h
read_spelling semicolon bytes h = ap reading h
read_spelling star bytes h = ap reading h
read_spelling caret bytes h = ap reading h
read_spelling dots bytes h = ap reading h
read_spelling rec_word bytes h = ap reading h

-- two fronts of one length are one
front_same : (xs ys bs cs : List ℕ) → length xs ≡ length ys → xs ++ bs ≡ ys ++ cs → (xs ≡ ys) × (bs ≡ cs)
front_same xs ys bs cs long e =
    let same : xs ≡ ys = sym (take_at xs bs (length xs) refl) ∙ ap (λ z. take (length xs) z) e ∙ take_at ys cs (length xs) (sym long) in
    (same, sym (drop_at xs bs (length xs) refl) ∙ ap (λ z. drop (length xs) z) e ∙ drop_at ys cs (length xs) (sym long))

pub record AreSame (token other : Token) (rest back : List ℕ) : Type 0 where
  pub token_same : token ≡ other
  pub rest_same : rest ≡ back

pub one_token : (bytes : List ℕ) (token other : Token) (rest back : List ℕ) → FirstToken bytes token rest → FirstToken bytes other back → AreSame token other rest back
one_token bytes token other rest back h k =
    let most = h.longest other k.spelling back k.spelled k.whole in
    let least = k.longest token h.spelling rest h.spelled h.whole in
    let long : length h.spelling ≡ length k.spelling = omega arith in
    let same = front_same h.spelling k.spelling rest back long (sym h.whole ∙ k.whole) in
    record {
      token_same = sym (read_spelling token h.spelling h.spelled) ∙ ap reading same.0 ∙ read_spelling other k.spelling k.spelled;
      rest_same = same.1;
    }

-- a first token stands in a text that isn't empty
pub first_some : (bytes : List ℕ) (token : Token) (rest : List ℕ) → FirstToken bytes token rest → bytes ≢ []
first_some bytes token rest h empty = go h.spelling h.spelled (sym empty ∙ h.whole)
  where
    go : (spelling : List ℕ) → Spells token spelling → [] ≡ spelling ++ rest → ⊥
    go [] spelled whole = spells_some token spelled
    go (b ∷ more) spelled whole = cc

pub one_list : (bytes : List ℕ) (tokens others : List Token) → TokensOf bytes tokens → TokensOf bytes others → tokens ≡ others
one_list bytes [] [] h k = refl
one_list bytes [] (other ∷ others) h k = absurd (first_some (after_gap bytes) other k.0 k.1 h)
one_list bytes (token ∷ tokens) [] h k = absurd (first_some (after_gap bytes) token h.0 h.1 k)
one_list bytes (token ∷ tokens) (other ∷ others) h k =
    let same = one_token (after_gap bytes) token other h.0 k.0 h.1 k.1 in
    let more : tokens ≡ others = one_list h.0 tokens others h.2 (subst (λ rest. TokensOf rest others) (sym same.rest_same) k.2) in
    let one = same.token_same in
    cc
