-- With which token a text begins, if it begins with one.
use Rattle.std.proofs.Common.{◌≡◌, ◌≢◌, ℕ, zero, suc, ◌+◌, ◌<◌, ◌≤◌, ◌⊎◌, inl, inr, ⊎_elim, Bool, true, false, ◌||◌, List, [], ◌∷◌, ◌++◌, length, take, drop, get_or, refl, sym, subst, ap, ◌∙◌, ◌-◌, arith, one-add}
use Rattle.std.specs.Prelude.{◌==◌, codes, take_while}
use Rattle.std.specs.List.{AllByRecursion}
use Rattle.std.specs.Char.{is_ascii_digit, is_ascii_alphabetic}
use Rattle.std.proofs.lemmas.Bool.{cases_eq, cases_lt}
use Rattle.std.proofs.lemmas.Bool.Decides.{nat_tests, not_from_Decides}
use Rattle.std.specs.Str.{bytes_eq}
use Rattle.std.proofs.lemmas.Slice.Eq.{bytes_eq-Decides}
use Rattle.kb_lexing.specs.Token.{Token, name, assign, open_round, close_round, open_square, close_square, comma, semicolon, star, caret, dots, rec_word}
use Rattle.kb_lexing.specs.Spelling.{IsDigit, IsNameByte, BeginsNames, BeginsWithNameByte, GoesOnAsName, IsStringByte, Spells, FirstToken, after_gap}
use Rattle.std.proofs.lemmas.List.{append-nil}
use Rattle.std.proofs.Math.Seq.{take-append_seam}
use Rattle.kb_lexing.specs.Lexemes.{IsLongestFront, GoesOnAt, AreFewDigits, is_string_byte}
use Rattle.kb_lexing.proofs.FirstTokens.{IsSingle, Kind, word, digits, negative, quoted, assigns, ranges, single, same_head, first_from, none_from, IsFirstOf, word_first, digits_first, negative_first, negative_none, string_first, string_none}
use Rattle.kb_lexing.proofs.LongestFronts.{longest_digits, longest_string, longest_onward, longest_stop}
use Rattle.kb_lexing.proofs.OneToken.{first_some}

-- a text begins with a token, or with none
pub data Begun (text : List ℕ) : Type 0 where
  begun : (token : Token) (n : ℕ) → IsFirstOf text token n → Begun text
  not_begun : ((token : Token) (rest : List ℕ) → ¬ FirstToken text token rest) → Begun text

-- two lists of bytes are one, or not
pub same_decided : (xs ys : List ℕ) → (xs ≡ ys) ⊎ (xs ≢ ys)
same_decided xs ys = go (bytes_eq xs ys) refl
  where
    go : (t : Bool) → bytes_eq xs ys ≡ t → (xs ≡ ys) ⊎ (xs ≢ ys)
    go true e = inl ((bytes_eq-Decides xs ys).0 e)
    go false e = inr (not_from_Decides (bytes_eq xs ys) (bytes_eq-Decides xs ys) e)

-- ---- bytes

names_decided : (b : ℕ) → BeginsNames b ⊎ ¬ BeginsNames b
names_decided b = go (is_ascii_alphabetic b || (b == 95)) refl
  where
    go : (t : Bool) → (is_ascii_alphabetic b || (b == 95)) ≡ t → BeginsNames b ⊎ ¬ BeginsNames b
    go true e = inl (grind (arith, nat_tests))
    go false e = inr (λ h. grind (arith, nat_tests))

digit_decided : (b : ℕ) → IsDigit b ⊎ ¬ IsDigit b
digit_decided b = go (is_ascii_digit b) refl
  where
    go : (t : Bool) → is_ascii_digit b ≡ t → IsDigit b ⊎ ¬ IsDigit b
    go true e = inl (grind (arith, nat_tests))
    go false e = inr (λ h. grind (arith, nat_tests))

or_decided : {P Q : Type 0} → P ⊎ ¬ P → Q ⊎ ¬ Q → (P ⊎ Q) ⊎ ¬ (P ⊎ Q)
or_decided (inl p) q = inl (inl p)
or_decided (inr one) (inl q) = inl (inr q)
or_decided (inr one) (inr other) = inr (⊎_elim one other)

name_byte_decided : (b : ℕ) → IsNameByte b ⊎ ¬ IsNameByte b
name_byte_decided b = or_decided (names_decided b) (digit_decided b)

single_decided : (b : ℕ) → IsSingle b ⊎ ¬ IsSingle b
single_decided b =
    or_decided (cases_eq b 40) (or_decided (cases_eq b 41) (or_decided (cases_eq b 91) (or_decided (cases_eq b 93)
    (or_decided (cases_eq b 44) (or_decided (cases_eq b 59) (or_decided (cases_eq b 42) (cases_eq b 94)))))))

-- ---- names

pub begins_decided : (bytes : List ℕ) → BeginsWithNameByte bytes ⊎ ¬ BeginsWithNameByte bytes
begins_decided [] = inr (λ h. h)
begins_decided (b ∷ bytes) = name_byte_decided b

goes_on_decided : (bytes : List ℕ) → GoesOnAt bytes ⊎ ¬ GoesOnAt bytes
goes_on_decided [] = inr (λ h. h)
goes_on_decided (b ∷ bytes) = byte (name_byte_decided b)
  where
    dot : ¬ IsNameByte b → (b ≡ 46) ⊎ (b ≢ 46) → BeginsWithNameByte bytes ⊎ ¬ BeginsWithNameByte bytes → GoesOnAt (b ∷ bytes) ⊎ ¬ GoesOnAt (b ∷ bytes)
    dot one (inl e) (inl h) = inl (inr (e, h))
    dot one (inl e) (inr other) = inr (⊎_elim one (λ h. other h.1))
    dot one (inr other) _ = inr (⊎_elim one (λ h. other h.0))

    byte : IsNameByte b ⊎ ¬ IsNameByte b → GoesOnAt (b ∷ bytes) ⊎ ¬ GoesOnAt (b ∷ bytes)
    byte (inl h) = inl (inl h)
    byte (inr one) = dot one (cases_eq b 46) (begins_decided bytes)

pub name_front : (bytes : List ℕ) → (n : ℕ) × IsLongestFront GoesOnAsName bytes n
name_front [] = (0, longest_stop [] (λ h. h))
name_front (b ∷ bytes) = go (goes_on_decided (b ∷ bytes)) (name_front bytes)
  where
    go : GoesOnAt (b ∷ bytes) ⊎ ¬ GoesOnAt (b ∷ bytes) → (n : ℕ) × IsLongestFront GoesOnAsName bytes n → (n : ℕ) × IsLongestFront GoesOnAsName (b ∷ bytes) n
    go (inl h) more = (suc more.0, longest_onward b bytes more.0 h more.1)
    go (inr ends) more = (0, longest_stop (b ∷ bytes) ends)

spelled_word : (b : ℕ) (bytes : List ℕ) (m : ℕ) → BeginsNames b → GoesOnAsName (take m bytes) → (b ∷ take m bytes ≡ codes "rec") ⊎ (b ∷ take m bytes ≢ codes "rec")
    → (token : Token) × Spells token (take (1 + m) (b ∷ bytes))
spelled_word b bytes m at goes (inl e) = (rec_word, rw one-add e)
spelled_word b bytes m at goes (inr other) = (name (b ∷ take m bytes), rw one-add (refl, (at, goes, other)))

-- a name or `rec`
word_begun : (b : ℕ) (bytes : List ℕ) → BeginsNames b → Begun (b ∷ bytes)
word_begun b bytes at =
    let front = name_front bytes in
    let token = spelled_word b bytes front.0 at front.1.formed (same_decided (b ∷ take front.0 bytes) (codes "rec")) in
    begun token.0 (1 + front.0) (word_first (b ∷ bytes) front.0 token.0 at front.1 token.1)

-- ---- numbers and strings

number_begun : (b : ℕ) (bytes : List ℕ) → IsDigit b → Begun (b ∷ bytes)
number_begun b bytes at = begun _ _ (digits_first (b ∷ bytes) _ at (longest_digits (b ∷ bytes) _ refl))

negative_begun : (b : ℕ) (bytes : List ℕ) → b ≡ 45 → Begun (b ∷ bytes)
negative_begun b bytes at = go (length (take_while is_ascii_digit (take 18 bytes))) (longest_digits bytes _ refl)
  where
    go : (n : ℕ) → IsLongestFront AreFewDigits bytes n → Begun (b ∷ bytes)
    go zero h = not_begun (negative_none (b ∷ bytes) at h)
    go (suc n) h = begun _ _ (negative_first (b ∷ bytes) (suc n) at h (omega arith))

string_begun : (b : ℕ) (bytes : List ℕ) → b ≡ 34 → Begun (b ∷ bytes)
string_begun b bytes at = go _ (longest_string bytes _ refl) (cases_lt (1 + length (take_while is_string_byte bytes)) (length (b ∷ bytes))) (cases_eq (get_or (b ∷ bytes) (1 + length (take_while is_string_byte bytes)) 0) 34)
  where
    go : (n : ℕ) → IsLongestFront (AllByRecursion IsStringByte) bytes n → (1 + n < length (b ∷ bytes)) ⊎ (length (b ∷ bytes) ≤ 1 + n) → (get_or (b ∷ bytes) (1 + n) 0 ≡ 34) ⊎ (get_or (b ∷ bytes) (1 + n) 0 ≢ 34) → Begun (b ∷ bytes)
    go n h (inl some) (inl closed) = begun _ _ (string_first (b ∷ bytes) n at h some closed)
    go n h (inl some) (inr unclosed) = not_begun (string_none (b ∷ bytes) n at h (λ _. unclosed))
    go n h (inr ends) closed = not_begun (string_none (b ∷ bytes) n at h (λ some. absurd (omega arith)))

-- ---- marks

pub single_only : (b : ℕ) (more : List ℕ) → IsSingle b → Kind b more → length more ≤ 0
single_only b more h (word at goes) = absurd (omega arith)
single_only b more h (digits at each few) = absurd (omega arith)
single_only b more h (negative at each some few) = absurd (omega arith)
single_only b more h (quoted text at whole each) = absurd (omega arith)
single_only b more h (assigns at whole) = absurd (omega arith)
single_only b more h (ranges at whole) = absurd (omega arith)
single_only b more h (single at whole) = omega (arith, ap length whole)

one_byte : (token : Token) (b : ℕ) (bytes : List ℕ) → IsSingle b → Spells token (b ∷ []) → Begun (b ∷ bytes)
one_byte token b bytes at spelled = begun token 1 (record {
  first = first_from token b [] bytes bytes spelled refl (λ other back k e. single_only b other at k);
  some = omega arith;
  within = omega arith;
})

-- no gap stands before a byte above the hash sign
no_gap : (c : ℕ) (bytes : List ℕ) → 35 < c → after_gap (c ∷ bytes) ≡ c ∷ bytes
no_gap c bytes above = grind arith

-- a text that begins with a mark of one byte, without a gap before it
pub mark_first : (token : Token) (b : ℕ) (text : List ℕ) → IsSingle b → Spells token (b ∷ []) → 0 < length text → get_or text 0 0 ≡ b
    → FirstToken (after_gap text) token (take (length text - 1) (drop 1 text))
mark_first token b [] at spelled some first = absurd (omega (arith, some))
mark_first token b (c ∷ bytes) at spelled some first =
    let e : c ≡ b = first in
    let above : 35 < c = omega (arith, at, e) in
    let all : take (length (c ∷ bytes) - 1) bytes ≡ bytes = ap (λ n. take n bytes) (omega arith) ∙ ap (take (length bytes)) (sym (append-nil bytes)) ∙ take-append_seam bytes [] in
    subst (λ text. FirstToken text token (take (length (c ∷ bytes) - 1) bytes)) (sym (no_gap c bytes above))
    (subst (λ rest. FirstToken (c ∷ bytes) token rest) (sym all)
    (subst (λ d. FirstToken (d ∷ bytes) token bytes) (sym e)
    (first_from token b [] bytes bytes spelled refl (λ other back k w. single_only b other at k))))

single_begun : (b : ℕ) (bytes : List ℕ) → IsSingle b → Begun (b ∷ bytes)
single_begun b bytes (inl e) = one_byte open_round b bytes (inl e) (ap (λ x. x ∷ []) e)
single_begun b bytes (inr (inl e)) = one_byte close_round b bytes (inr (inl e)) (ap (λ x. x ∷ []) e)
single_begun b bytes (inr (inr (inl e))) = one_byte open_square b bytes (inr (inr (inl e))) (ap (λ x. x ∷ []) e)
single_begun b bytes (inr (inr (inr (inl e)))) = one_byte close_square b bytes (inr (inr (inr (inl e)))) (ap (λ x. x ∷ []) e)
single_begun b bytes (inr (inr (inr (inr (inl e))))) = one_byte comma b bytes (inr (inr (inr (inr (inl e))))) (ap (λ x. x ∷ []) e)
single_begun b bytes (inr (inr (inr (inr (inr (inl e)))))) = one_byte semicolon b bytes (inr (inr (inr (inr (inr (inl e)))))) (ap (λ x. x ∷ []) e)
single_begun b bytes (inr (inr (inr (inr (inr (inr (inl e))))))) = one_byte star b bytes (inr (inr (inr (inr (inr (inr (inl e))))))) (ap (λ x. x ∷ []) e)
single_begun b bytes (inr (inr (inr (inr (inr (inr (inr e))))))) = one_byte caret b bytes (inr (inr (inr (inr (inr (inr (inr e))))))) (ap (λ x. x ∷ []) e)

-- a mark of two bytes, where nothing else begins with the first of them
two_bytes : (token : Token) (b c : ℕ) (bytes : List ℕ) → Spells token (b ∷ c ∷ []) → ((more : List ℕ) → Kind b more → more ≡ c ∷ []) → Begun (b ∷ bytes)
two_bytes token b c [] spelled only = not_begun (none_from b [] (λ other back k e. let w = e ∙ ap (λ x. x ++ back) (only other k) in cc))
two_bytes token b c (d ∷ bytes) spelled only = go (cases_eq d c)
  where
    go : (d ≡ c) ⊎ (d ≢ c) → Begun (b ∷ d ∷ bytes)
    go (inl e) = begun token 2 (record {
      first = first_from token b (c ∷ []) (d ∷ bytes) bytes spelled (ap (λ x. x ∷ bytes) e) (λ other back k w. omega (arith, ap length (only other k)));
      some = omega arith;
      within = omega arith;
    })
    go (inr other) = not_begun (none_from b (d ∷ bytes) (λ more back k e. other (same_head (e ∙ ap (λ x. x ++ back) (only more k)))))

pub colon_only : (b : ℕ) (more : List ℕ) → b ≡ 58 → Kind b more → more ≡ 61 ∷ []
colon_only b more h (word at goes) = absurd (omega arith)
colon_only b more h (digits at each few) = absurd (omega arith)
colon_only b more h (negative at each some few) = absurd (omega arith)
colon_only b more h (quoted text at whole each) = absurd (omega arith)
colon_only b more h (assigns at whole) = whole
colon_only b more h (ranges at whole) = absurd (omega arith)
colon_only b more h (single at whole) = absurd (omega arith)

pub dot_only : (b : ℕ) (more : List ℕ) → b ≡ 46 → Kind b more → more ≡ 46 ∷ []
dot_only b more h (word at goes) = absurd (omega arith)
dot_only b more h (digits at each few) = absurd (omega arith)
dot_only b more h (negative at each some few) = absurd (omega arith)
dot_only b more h (quoted text at whole each) = absurd (omega arith)
dot_only b more h (assigns at whole) = absurd (omega arith)
dot_only b more h (ranges at whole) = whole
dot_only b more h (single at whole) = absurd (omega arith)

-- ---- a text

-- no token begins with the byte
record IsForeign (b : ℕ) : Type 0 where
  pub no_name : ¬ BeginsNames b
  pub no_digit : ¬ IsDigit b
  pub no_minus : b ≢ 45
  pub no_quote : b ≢ 34
  pub no_colon : b ≢ 58
  pub no_dot : b ≢ 46
  pub no_single : ¬ IsSingle b

foreign : (b : ℕ) (more : List ℕ) → IsForeign b → Kind b more → ⊥
foreign b more h (word at goes) = h.no_name at
foreign b more h (digits at each few) = h.no_digit at
foreign b more h (negative at each some few) = h.no_minus at
foreign b more h (quoted text at whole each) = h.no_quote at
foreign b more h (assigns at whole) = h.no_colon at
foreign b more h (ranges at whole) = h.no_dot at
foreign b more h (single at whole) = h.no_single at

foreign_not_begun : (b : ℕ) (bytes : List ℕ) → IsForeign b → Begun (b ∷ bytes)
foreign_not_begun b bytes h = not_begun (none_from b bytes (λ other back k e. foreign b other h k))

pub begun_with : (text : List ℕ) → Begun text
begun_with [] = not_begun (λ token rest first. first_some [] token rest first refl)
begun_with (b ∷ bytes) =
    ⊎_elim (word_begun b bytes)
    (λ no_name. ⊎_elim (number_begun b bytes)
    (λ no_digit. ⊎_elim (negative_begun b bytes)
    (λ no_minus. ⊎_elim (string_begun b bytes)
    (λ no_quote. ⊎_elim (λ at. two_bytes assign b 61 bytes (ap (λ x. x ∷ 61 ∷ []) at) (λ more k. colon_only b more at k))
    (λ no_colon. ⊎_elim (λ at. two_bytes dots b 46 bytes (ap (λ x. x ∷ 46 ∷ []) at) (λ more k. dot_only b more at k))
    (λ no_dot. ⊎_elim (single_begun b bytes)
    (λ no_single. foreign_not_begun b bytes (record {
      no_name = no_name;
      no_digit = no_digit;
      no_minus = no_minus;
      no_quote = no_quote;
      no_colon = no_colon;
      no_dot = no_dot;
      no_single = no_single;
    })) (single_decided b)) (cases_eq b 46)) (cases_eq b 58)) (cases_eq b 34)) (cases_eq b 45)) (digit_decided b)) (names_decided b)
