-- Names and strings of letters can be spelled, and a record whose field names are apart has none twice.
use Rattle.std.proofs.Common.{◌≡◌, ◌≢◌, ℕ, zero, suc, ◌<◌, ◌≤◌, ◌⊎◌, inl, inr, Bool, true, false, not, ◌&&◌, ◌||◌, nat_eq, nat_le, List, [], ◌∷◌, get_or, slice_get, Some, refl, sym, ap, ◌∙◌, arith}
use Rattle.std.specs.List.{AllByRecursion}
use Rattle.std.specs.Cmp.Lexicographic.{pointwise}
use Rattle.std.proofs.lemmas.Bool.Decides.{nat_tests}
use Rattle.std.proofs.lemmas.Slice.Eq.{bytes_eq-Decides}
use Rattle.kb_record.specs.Spelling.{BeginsNames, GoesOnAsName, IsName, IsStringByte}
use Rattle.kb_fields.specs.Fields.{StandsTwice}

and_left : (a b : Bool) → (a && b) ≡ true → a ≡ true
and_left true b e = refl
and_left false b e = cc

and_right : (a b : Bool) → (a && b) ≡ true → b ≡ true
and_right true b e = e
and_right false b e = cc

or_cases : (a b : Bool) → (a || b) ≡ true → (a ≡ true) ⊎ (b ≡ true)
or_cases true b e = inl refl
or_cases false b e = inr e

least : (a b : ℕ) → nat_le a b ≡ true → a ≤ b
least a b e = grind (arith, nat_tests)

-- ---- names

abbrev is_capital : ℕ → Bool
is_capital b = nat_le 65 b && nat_le b 90

abbrev is_small : ℕ → Bool
is_small b = nat_le 97 b && nat_le b 122

abbrev is_letter : ℕ → Bool
is_letter b = is_capital b || (is_small b || nat_eq b 95)

abbrev are_letters : List ℕ → Bool
are_letters [] = true
are_letters (b ∷ bytes) = is_letter b && are_letters bytes

letter_begins : (b : ℕ) → is_letter b ≡ true → BeginsNames b
letter_begins b e =
    elim (or_cases (is_capital b) (is_small b || nat_eq b 95) e) [
      | inl capital ↦ inl (least 65 b (and_left (nat_le 65 b) (nat_le b 90) capital), least b 90 (and_right (nat_le 65 b) (nat_le b 90) capital))
      | inr others ↦ elim (or_cases (is_small b) (nat_eq b 95) others) [
        | inl small ↦ inr (inl (least 97 b (and_left (nat_le 97 b) (nat_le b 122) small), least b 122 (and_right (nat_le 97 b) (nat_le b 122) small)))
        | inr line ↦ inr (inr (let same : b ≡ 95 = grind (arith, nat_tests) in same))
      ]
    ]

letters_go_on : (bytes : List ℕ) → are_letters bytes ≡ true → GoesOnAsName bytes
letters_go_on [] e = tt
letters_go_on (b ∷ bytes) e =
    (inl (inl (letter_begins b (and_left (is_letter b) (are_letters bytes) e))), letters_go_on bytes (and_right (is_letter b) (are_letters bytes) e))

-- a word of letters that doesn't begin with `r`
abbrev pub is_word : List ℕ → Bool
is_word [] = false
is_word (b ∷ bytes) = not (nat_eq b 114) && are_letters (b ∷ bytes)

not_same : (a b : ℕ) → not (nat_eq a b) ≡ true → a ≢ b
not_same a b e = λ same. let no : ⊥ = grind (arith, nat_tests) in no

pub word_is_name : (text : List ℕ) → is_word text ≡ true → IsName text
word_is_name [] e = cc
word_is_name (b ∷ bytes) e =
    let other = not_same b 114 (and_left (not (nat_eq b 114)) (are_letters (b ∷ bytes)) e) in
    let letters = and_right (not (nat_eq b 114)) (are_letters (b ∷ bytes)) e in (
      letter_begins b (and_left (is_letter b) (are_letters bytes) letters),
      letters_go_on bytes (and_right (is_letter b) (are_letters bytes) letters),
      λ same. other (ap (λ (text : List ℕ). get_or text 0 0) same),
    )

-- ---- strings

abbrev is_string_byte : ℕ → Bool
is_string_byte b = nat_le 32 b && (nat_le b 126 && not (nat_eq b 34))

abbrev pub are_string_bytes : List ℕ → Bool
are_string_bytes [] = true
are_string_bytes (b ∷ bytes) = is_string_byte b && are_string_bytes bytes

byte_of_string : (b : ℕ) → is_string_byte b ≡ true → IsStringByte b
byte_of_string b e =
    let rest = and_right (nat_le 32 b) (nat_le b 126 && not (nat_eq b 34)) e in (
      least 32 b (and_left (nat_le 32 b) (nat_le b 126 && not (nat_eq b 34)) e),
      least b 126 (and_left (nat_le b 126) (not (nat_eq b 34)) rest),
      not_same b 34 (and_right (nat_le b 126) (not (nat_eq b 34)) rest),
    )

pub string_bytes : (text : List ℕ) → are_string_bytes text ≡ true → AllByRecursion IsStringByte text
string_bytes [] e = tt
string_bytes (b ∷ bytes) e =
    (byte_of_string b (and_left (is_string_byte b) (are_string_bytes bytes) e), string_bytes bytes (and_right (is_string_byte b) (are_string_bytes bytes) e))

-- ---- names that are apart

abbrev is_among : List ℕ → List (List ℕ) → Bool
is_among name [] = false
is_among name (other ∷ others) = pointwise nat_eq name other || is_among name others

abbrev pub are_apart : List (List ℕ) → Bool
are_apart [] = true
are_apart (name ∷ names) = not (is_among name names) && are_apart names

some_same : {a b : List ℕ} → Some a ≡ Some b → a ≡ b
some_same e = cc

or_here : (a b : Bool) → a ≡ true → (a || b) ≡ true
or_here true b e = refl
or_here false b e = cc

or_later : (a b : Bool) → b ≡ true → (a || b) ≡ true
or_later true b e = refl
or_later false b e = e

among : (name : List ℕ) (names : List (List ℕ)) (k : ℕ) → slice_get names k ≡ Some name → is_among name names ≡ true
among name [] k at = cc
among name (other ∷ others) zero at =
    or_here (pointwise nat_eq name other) (is_among name others) ((bytes_eq-Decides name other).1 (sym (some_same at)))
among name (other ∷ others) (suc k) at = or_later (pointwise nat_eq name other) (is_among name others) (among name others k at)

not_both : (b : Bool) → b ≡ true → not b ≡ true → ⊥
not_both true e f = cc
not_both false e f = cc

apart_at : (names : List (List ℕ)) (name : List ℕ) (first again : ℕ) → are_apart names ≡ true → first < again → slice_get names first ≡ Some name
    → slice_get names again ≡ Some name → ⊥
apart_at [] name first again e later at_first at_again = cc
apart_at (other ∷ others) name first zero e later at_first at_again = omega (arith, later)
apart_at (other ∷ others) name zero (suc again) e later at_first at_again =
    let same : other ≡ name = some_same at_first in
    not_both (is_among other others) (among other others again (at_again ∙ ap Some (sym same))) (and_left (not (is_among other others)) (are_apart others) e)
apart_at (other ∷ others) name (suc first) (suc again) e later at_first at_again =
    apart_at others name first again (and_right (not (is_among other others)) (are_apart others) e) (omega (arith, later)) at_first at_again

pub none_stands_twice : (names : List (List ℕ)) (name : List ℕ) → are_apart names ≡ true → StandsTwice names name → ⊥
none_stands_twice names name e twice = apart_at names name twice.first twice.again e twice.later twice.at_first twice.at_again
