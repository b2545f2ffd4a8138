-- The letters of a word that is read are generators.
use Rattle.std.proofs.Common.{◌≡◌, ℕ, zero, suc, ◌+◌, ◌*◌, ◌<◌, ◌≤◌, Bool, true, false, nat_lt, nat_eq, if◌then◌else◌, ℤ, pos, negsuc, List, [], ◌∷◌, ◌++◌, length, slice_get, Option, None, Some, option_and_then, Result, Ok, Err, refl, sym, ◌∙◌, subst, arith}
use Rattle.std.specs.Prelude.{codes, IfOk, IfSome}
use Rattle.std.specs.Option.{option_map}
use Rattle.std.specs.Cmp.Lexicographic.{pointwise}
use Rattle.std.proofs.lemmas.List.Elements.{All-nil, All-push, All-append}
use Rattle.std.proofs.lemmas.Option.{none-some, slice_get_within}
use Rattle.kb_word.specs.Relations.{inverse_letter, inverse_word, IsOver}
use Rattle.kb_word.specs.declared.presentation.Presentation.{Presentation}
use Rattle.kb_record.specs.Tree.{Factor, named, grouped, Factors, no_factors, factor}
use Rattle.kb_record.specs.Meaning.{WordFault, too_long, most_letters, letter_from, name_meaning, repeated, repetition, power_meaning, and_then, product, factor_meaning, product_meaning}
use Rattle.kb_record.specs.Faults.{Meaning}
use Rattle.kb_record.proofs.WordMeanings.{name_known, name_unknown}

-- ---- letters

-- the letter is one of 1 to n
abbrev IsWithin : ℕ → ℕ → Type 0
IsWithin n x = (0 < x) × (x ≤ n)

over_none : (n : ℕ) → IsOver n []
over_none n = All-nil (IsWithin n)

over_one : (n x : ℕ) → IsWithin n x → IsOver n (x ∷ [])
over_one n x within = All-push (IsWithin n) [] x (over_none n) within

-- what is found from letter b on is one of the letters from there
letter_named : (b n : ℕ) (names : List (List ℕ)) (text : List ℕ) → 0 < b → b + length names ≡ suc n → IfSome (letter_from b names text) (IsWithin n)
letter_named b n [] text positive count = tt
letter_named b n (name ∷ names) text positive count =
    go (pointwise nat_eq name text) (letter_named (suc b) n names text (omega arith) (omega (arith, count)))
  where
    go : (same : Bool) → IfSome (letter_from (suc b) names text) (IsWithin n) → IfSome (if same then Some b else letter_from (suc b) names text) (IsWithin n)
    go true later = (positive, omega (arith, count))
    go false later = later

-- ---- words that are made, where they are not too long

unless_long : (n : ℕ) (long : Bool) (w : List ℕ) → IsOver n w → IfOk (if long then Err too_long else Ok w) (IsOver n)
unless_long n true w over = tt
unless_long n false w over = over

then_over : (n : ℕ) (first : Result (List ℕ) WordFault) (next : List ℕ → Result (List ℕ) WordFault) → IfOk first (IsOver n)
    → ((w : List ℕ) → IsOver n w → IfOk (next w) (IsOver n)) → IfOk (and_then first next) (IsOver n)
then_over n (Ok w) next over go_on = go_on w over
then_over n (Err fault) next over go_on = tt

repeated_over : (n count : ℕ) (w : List ℕ) → IsOver n w → IsOver n (repeated count w)
repeated_over n zero w over = over_none n
repeated_over n (suc count) w over = All-append (IsWithin n) w (repeated count w) over (repeated_over n count w over)

repetition_over : (n count : ℕ) (w : List ℕ) → IsOver n w → IfOk (repetition count w) (IsOver n)
repetition_over n count w over = unless_long n (nat_lt most_letters (count * length w)) (repeated count w) (repeated_over n count w over)

product_over : (n : ℕ) (so_far w : List ℕ) → IsOver n so_far → IsOver n w → IfOk (product so_far w) (IsOver n)
product_over n so_far w front over =
    unless_long n (nat_lt most_letters (length so_far + length w)) (so_far ++ w) (All-append (IsWithin n) so_far w front over)

-- ---- inverses

some_inside : (o : Option (Option ℕ)) (x : ℕ) → option_and_then (λ inverse. inverse) o ≡ Some x → (inside : Option ℕ) × (o ≡ Some inside)
some_inside None x is = absurd (none-some x is)
some_inside (Some inside) x is = (inside, refl)

has_inverse : (inverses : List (Option ℕ)) (y x : ℕ) → inverse_letter inverses y ≡ Some x → IsWithin (length inverses) y
has_inverse inverses zero x is = absurd (none-some x is)
has_inverse inverses (suc place) x is =
    let inside = some_inside (slice_get inverses place) x is in
    let within = slice_get_within inverses place inside.0 inside.1 in
    (omega arith, omega (arith, within))

push_over : (n : ℕ) (first : Option ℕ) (rest : Option (List ℕ)) → IfSome first (IsWithin n) → IfSome rest (IsOver n)
    → IfSome (option_and_then (λ y. option_map (λ v. v ++ y ∷ []) rest) first) (IsOver n)
push_over n None rest letter over = tt
push_over n (Some y) None letter over = tt
push_over n (Some y) (Some v) letter over = All-push (IsWithin n) v y over letter

module _ (presentation : Presentation) where
  -- how many names there are
  abbrev count : ℕ
  count = length presentation.names

  inverse_within : (x : ℕ) → IfSome (inverse_letter presentation.inv x) (IsWithin count)
  inverse_within x = go (inverse_letter presentation.inv x) refl
    where
      go : (o : Option ℕ) → inverse_letter presentation.inv x ≡ o → IfSome o (IsWithin count)
      go None is = tt
      go (Some y) is =
          let given = presentation.is_presentation in
          let same : length presentation.inv ≡ count = given.one_inverse_each ∙ sym given.one_name_each in
          subst (λ n. IsWithin n y) same (has_inverse presentation.inv y x (given.mutual_inverses x y is))

  inverse_over : (w : List ℕ) → IfSome (inverse_word presentation.inv w) (IsOver count)
  inverse_over [] = over_none count
  inverse_over (x ∷ w) = push_over count (inverse_letter presentation.inv x) (inverse_word presentation.inv w) (inverse_within x) (inverse_over w)

  -- ---- factors

  name_over : (text : List ℕ) → IfOk (name_meaning presentation.names text) (IsOver count)
  name_over text =
      go (pointwise nat_eq text (codes "IdWord")) refl (letter_from 1 presentation.names text) refl
      (letter_named 1 count presentation.names text (omega arith) (omega arith))
    where
      go : (empty : Bool) → pointwise nat_eq text (codes "IdWord") ≡ empty → (o : Option ℕ) → letter_from 1 presentation.names text ≡ o
          → IfSome o (IsWithin count) → IfOk (name_meaning presentation.names text) (IsOver count)
      go true is o letter within = rw is (over_none count)
      go false other None letter within = rw (name_unknown presentation.names text other letter) tt
      go false other (Some x) letter within = rw (name_known presentation.names text x other letter) (over_one count x within)

  power_over : (power : Option ℤ) (w : List ℕ) → IsOver count w → IfOk (power_meaning presentation.names presentation.inv power w) (IsOver count)
  power_over None w over = over
  power_over (Some (pos k)) w over = repetition_over count k w over
  power_over (Some (negsuc k)) w over = go (inverse_word presentation.inv w) refl (inverse_over w)
    where
      go : (o : Option (List ℕ)) → inverse_word presentation.inv w ≡ o → IfSome o (IsOver count)
          → IfOk (power_meaning presentation.names presentation.inv (Some (negsuc k)) w) (IsOver count)
      go None is inverse = rw is tt
      go (Some v) is inverse = rw is (repetition_over count (suc k) v inverse)

  mutual
    factor_over : (f : Factor) → IfOk (factor_meaning presentation.names presentation.inv f) (IsOver count)
    factor_over (named text power) =
        then_over count (name_meaning presentation.names text) (power_meaning presentation.names presentation.inv power) (name_over text) (power_over power)
    factor_over (grouped factors power) =
        then_over count (product_meaning presentation.names presentation.inv [] factors) (power_meaning presentation.names presentation.inv power)
        (factors_over factors [] (over_none count)) (power_over power)

    factors_over : (factors : Factors) (so_far : List ℕ) → IsOver count so_far
        → IfOk (product_meaning presentation.names presentation.inv so_far factors) (IsOver count)
    factors_over no_factors so_far front = front
    factors_over (factor next others) so_far front =
        then_over count (and_then (factor_meaning presentation.names presentation.inv next) (product so_far))
        (λ w. product_meaning presentation.names presentation.inv w others)
        (then_over count (factor_meaning presentation.names presentation.inv next) (product so_far) (factor_over next) (λ w over. product_over count so_far w front over))
        (λ w over. factors_over others w over)

  -- a word that is read is one over the names
  pub read_over : (bytes w : List ℕ) → Meaning bytes presentation.names presentation.inv (Ok w) → IsOver count w
  read_over bytes w meaning =
      let P : Result (List ℕ) WordFault → Type 0 = λ r. IfOk r (IsOver count) in
      subst P meaning.means (factors_over meaning.factors [] (over_none count))
