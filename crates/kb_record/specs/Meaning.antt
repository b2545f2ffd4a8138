-- The meaning of a word's tree over a presentation, or the first fault that is met, reading from the left.
use Rattle.std.specs.Prelude.{ℕ, zero, suc, ◌+◌, ◌*◌, nat_lt, nat_eq, if◌then◌else◌, ℤ, pos, negsuc, List, [], ◌∷◌, ◌++◌, length, codes, Option, Some, None, Result, Ok, Err}
use lib.Pointwise.{pointwise}
use Rattle.kb_word.specs.Printed.{letter_name}
use Rattle.kb_word.specs.Relations.{inverse_letter, inverse_word}
use Rattle.kb_record.specs.Tree.{Factor, named, grouped, Factors, no_factors, factor}

-- what can be wrong with a word that is well written
pub data WordFault : Type 0 where
  unknown_generator : List ℕ → WordFault
  no_inverse : List ℕ → WordFault
  too_long : WordFault

-- a word has at most so many letters, and so has each factor, group and product in it
abbrev pub most_letters : ℕ
most_letters = 65535

-- the generator of a name, the first name being that of generator x
abbrev pub letter_from : ℕ → List (List ℕ) → List ℕ → Option ℕ
letter_from x [] text = None
letter_from x (name ∷ names) text =
    if pointwise nat_eq name text then Some x else letter_from (suc x) names text

-- `IdWord` is the empty word, another name that generator
abbrev pub name_meaning : List (List ℕ) → List ℕ → Result (List ℕ) WordFault
name_meaning names text =
    if pointwise nat_eq text (codes "IdWord") then Ok [] else letter_meaning text
    (letter_from 1 names text)
  where
    letter_meaning : List ℕ → Option ℕ → Result (List ℕ) WordFault
    letter_meaning text None = Err (unknown_generator text)
    letter_meaning text (Some x) = Ok (x ∷ [])

-- the first text where there is no inverse, else the second
abbrev pub if_none : List ℕ → Option ℕ → List ℕ → List ℕ
if_none here None later = here
if_none here (Some y) later = later

-- the name of the word's first letter without inverse
abbrev pub first_without_inverse : List (List ℕ) → List (Option ℕ) → List ℕ → List ℕ
first_without_inverse names inverses [] = []
first_without_inverse names inverses (x ∷ w) =
    if_none (letter_name names x) (inverse_letter inverses x)
    (first_without_inverse names inverses w)

-- w, n times
abbrev pub repeated : ℕ → List ℕ → List ℕ
repeated zero w = []
repeated (suc n) w = w ++ repeated n w

-- the word, n times, where that isn't too long
abbrev pub repetition : ℕ → List ℕ → Result (List ℕ) WordFault
repetition n w = if nat_lt most_letters (n * length w) then Err too_long else Ok (repeated n w)

-- a power below 0 repeats the inverse
abbrev pub power_meaning : List (List ℕ) → List (Option ℕ) → Option ℤ → List ℕ
    → Result (List ℕ) WordFault
power_meaning names inverses None w = Ok w
power_meaning names inverses (Some (pos n)) w = repetition n w
power_meaning names inverses (Some (negsuc n)) w = inverted (inverse_word inverses w)
  where
    inverted : Option (List ℕ) → Result (List ℕ) WordFault
    inverted None = Err (no_inverse (first_without_inverse names inverses w))
    inverted (Some v) = repetition (suc n) v

abbrev pub and_then : Result (List ℕ) WordFault → (List ℕ → Result (List ℕ) WordFault)
    → Result (List ℕ) WordFault
and_then (Ok w) next = next w
and_then (Err fault) next = Err fault

-- the product so far and the next factor, where that isn't too long
abbrev pub product : List ℕ → List ℕ → Result (List ℕ) WordFault
product so_far w =
    if nat_lt most_letters (length so_far + length w) then Err too_long else Ok (so_far ++ w)

abbrev mutual
  pub factor_meaning : List (List ℕ) → List (Option ℕ) → Factor → Result (List ℕ) WordFault
  factor_meaning names inverses (named text power) =
      and_then (name_meaning names text) (power_meaning names inverses power)
  factor_meaning names inverses (grouped factors power) =
      and_then (product_meaning names inverses [] factors) (power_meaning names inverses power)

  -- the product so far, and then the factors one by one
  pub product_meaning : List (List ℕ) → List (Option ℕ) → List ℕ → Factors
      → Result (List ℕ) WordFault
  product_meaning names inverses so_far no_factors = Ok so_far
  product_meaning names inverses so_far (factor next others) =
      and_then (and_then (factor_meaning names inverses next) (product so_far))
      (λ w. product_meaning names inverses w others)

abbrev pub word_meaning : List (List ℕ) → List (Option ℕ) → Factors → Result (List ℕ) WordFault
word_meaning names inverses factors = product_meaning names inverses [] factors
