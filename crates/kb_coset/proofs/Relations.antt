-- The defining relations: which there are in lists put together, and that their letters are generators.
use Rattle.std.proofs.Common.{◌≡◌, ℕ, zero, suc, ◌+◌, ◌<◌, ◌≤◌, List, [], ◌∷◌, ◌++◌, length, map, Option, Some, None, refl, sym, ap, ◌∙◌, subst, inl, inr, ◌⊎◌, arith}
use Rattle.std.specs.Prelude.{slice_get, option_and_then}
use Rattle.std.proofs.lemmas.Option.{slice_get_within}
use Rattle.std.proofs.lemmas.List.Elements.{All-nil, All-cons}
use Rattle.kb_word.specs.Words.{Pair, OneOf}
use Rattle.kb_word.specs.Relations.{inverse_letter, inverse_relations, IsOver}
use Rattle.kb_word.specs.Presentations.{PresentationParts}
use Rattle.kb_coset.specs.Subgroups.{IsGenerator}
use Rattle.kb_coset.specs.Marked.{ArePresentation, relations, marker_equation, marked_parts}

-- ---- lists put together

pub one_of_append : (pairs more : List Pair) (pair : Pair) → OneOf (pairs ++ more) pair → OneOf pairs pair ⊎ OneOf more pair
one_of_append [] more pair one = inr one
one_of_append (first ∷ pairs) more pair (zero, is) = inl (0, is)
one_of_append (first ∷ pairs) more pair (suc index, is) = elim (one_of_append pairs more pair (index, is)) [
  | inl one ↦ inl (suc one.0, one.1)
  | inr one ↦ inr one
]

one_of_first : (pairs more : List Pair) (pair : Pair) → OneOf pairs pair → OneOf (pairs ++ more) pair
one_of_first [] more pair one = absurd (cc one.1)
one_of_first (first ∷ pairs) more pair (zero, is) = (0, is)
one_of_first (first ∷ pairs) more pair (suc index, is) =
    let later = one_of_first pairs more pair (index, is) in (suc later.0, later.1)

one_of_second : (pairs more : List Pair) (pair : Pair) → OneOf more pair → OneOf (pairs ++ more) pair
one_of_second [] more pair one = one
one_of_second (first ∷ pairs) more pair one = let later = one_of_second pairs more pair one in (suc later.0, later.1)

-- ---- the relations of letters and their inverses

-- what has an inverse is a generator
has_inverse : (inverses : List (Option ℕ)) (x y : ℕ) → inverse_letter inverses x ≡ Some y → (0 < x) × (x ≤ length inverses)
has_inverse inverses zero y is = absurd (cc is)
has_inverse inverses (suc place) y is = within (slice_get inverses place) refl is
  where
    within : (o : Option (Option ℕ)) → slice_get inverses place ≡ o → option_and_then (λ inverse. inverse) o ≡ Some y
        → (0 < suc place) × (suc place ≤ length inverses)
    within None e is = absurd (cc is)
    within (Some inverse) e is = let low = slice_get_within inverses place inverse e in (omega arith, omega (arith, low))

-- the letters of the inverse relations from letter x on are generators, where the inverses are
inverses_over : (n x : ℕ) (inverses : List (Option ℕ)) → 0 < x → x + length inverses ≤ n + 1
    → ((place y : ℕ) → slice_get inverses place ≡ Some (Some y) → (0 < y) × (y ≤ n))
    → (pair : Pair) → OneOf (inverse_relations x inverses) pair → IsOver n pair.0 × IsOver n pair.1
inverses_over n x [] positive few are pair one = absurd (cc one.1)
inverses_over n x (None ∷ rest) positive few are pair one =
    inverses_over n (suc x) rest (omega arith) (omega (arith, few)) (λ place y is. are (suc place) y is) pair one
inverses_over n x (Some y ∷ rest) positive few are pair (suc index, is) =
    inverses_over n (suc x) rest (omega arith) (omega (arith, few)) (λ place y is. are (suc place) y is) pair (index, is)
inverses_over n x (Some y ∷ rest) positive few are pair (zero, is) =
    let P : ℕ → Type 0 = λ z. (0 < z) × (z ≤ n) in
    let Q : Pair → Type 0 = λ both. IsOver n both.0 × IsOver n both.1 in
    let same : (x ∷ y ∷ [], []) ≡ pair = cc is in
    let letter : P x = (positive, omega (arith, few)) in
    subst Q same (All-cons P x (y ∷ []) letter (All-cons P y [] (are 0 y refl) (All-nil P)), All-nil P)

-- the defining relations of a presentation are over its generators
pub relations_over : (n : ℕ) (parts : PresentationParts) → ArePresentation n parts
    → (pair : Pair) → OneOf (relations parts) pair → IsOver n pair.0 × IsOver n pair.1
relations_over n parts is pair one =
    elim (one_of_append parts.equations (inverse_relations 1 parts.inverses) pair one) [
      | inl equation ↦ is.letters pair equation
      | inr inverse ↦
          let count = is.one_inverse_each in
          inverses_over n 1 parts.inverses (omega arith) (omega (arith, count))
          (λ place y at.
          let back = has_inverse parts.inverses y (suc place) (is.mutual_inverses (suc place) y (ap (option_and_then (λ inverse. inverse)) at)) in
          let P : ℕ → Type 0 = λ m. (0 < y) × (y ≤ m) in
          subst P count back)
          pair inverse
    ]

-- the inverse at a place says that the letter of the place cancels with it
relation_of_place : (first place y : ℕ) (inverses : List (Option ℕ)) → slice_get inverses place ≡ Some (Some y)
    → OneOf (inverse_relations first inverses) ((first + place) ∷ y ∷ [], [])
relation_of_place first place y [] is = absurd (cc is)
relation_of_place first zero y (None ∷ rest) is = absurd (cc is)
relation_of_place first zero y (Some z ∷ rest) is =
    let same : z ≡ y = cc is in
    let number : first ≡ first + 0 = omega arith in
    (0, ap (λ letter. Some ((letter ∷ z ∷ [], []))) number ∙ ap (λ letter. Some (((first + 0) ∷ letter ∷ [], []))) same)
relation_of_place first (suc place) y (None ∷ rest) is =
    let number : suc first + place ≡ first + suc place = omega arith in
    let P : ℕ → Type 0 = λ letter. OneOf (inverse_relations (suc first) rest) (letter ∷ y ∷ [], []) in
    subst P number (relation_of_place (suc first) place y rest is)
relation_of_place first (suc place) y (Some z ∷ rest) is =
    let number : suc first + place ≡ first + suc place = omega arith in
    let P : ℕ → Type 0 = λ letter. OneOf (inverse_relations (suc first) rest) (letter ∷ y ∷ [], []) in
    let later = subst P number (relation_of_place (suc first) place y rest is) in
    (suc later.0, later.1)

at_place : (o : Option (Option ℕ)) (y : ℕ) → option_and_then (λ inverse. inverse) o ≡ Some y → o ≡ Some (Some y)
at_place None y is = absurd (cc is)
at_place (Some inverse) y is = ap Some is

pub inverse_relation : (parts : PresentationParts) (x y : ℕ) → inverse_letter parts.inverses x ≡ Some y
    → OneOf (relations parts) (x ∷ y ∷ [], [])
inverse_relation parts zero y is = absurd (cc is)
inverse_relation parts (suc place) y is =
    let number : 1 + place ≡ suc place = omega arith in
    let P : ℕ → Type 0 = λ letter. OneOf (inverse_relations 1 parts.inverses) (letter ∷ y ∷ [], []) in
    one_of_second parts.equations (inverse_relations 1 parts.inverses) (suc place ∷ y ∷ [], [])
    (subst P number (relation_of_place 1 place y parts.inverses (at_place (slice_get parts.inverses place) y is)))

-- ---- the relations of the marked presentation

-- a relation of the marked presentation is one of the presentation, or sends a generator of the subgroup behind the
-- marker
pub data IsMarkedRelation (n : ℕ) (generators : List (List ℕ)) (given : List Pair) (pair : Pair) : Type 0 where
  was_given : OneOf given pair → IsMarkedRelation n generators given pair
  marks : (h : List ℕ) → IsGenerator generators h → pair ≡ marker_equation n h → IsMarkedRelation n generators given pair

-- a letter without an inverse gives no relation
without_inverse : (x : ℕ) (inverses : List (Option ℕ)) → inverse_relations x (inverses ++ None ∷ []) ≡ inverse_relations x inverses
without_inverse x [] = refl
without_inverse x (None ∷ rest) = without_inverse (suc x) rest
without_inverse x (Some y ∷ rest) = ap (λ (pairs : List Pair). (x ∷ y ∷ [], []) ∷ pairs) (without_inverse (suc x) rest)

-- a marker's equation comes from a generator of the subgroup
pub from_generator : (n : ℕ) (generators : List (List ℕ)) (pair : Pair) → OneOf (map (marker_equation n) generators) pair
    → (h : List ℕ) × IsGenerator generators h × (pair ≡ marker_equation n h)
from_generator n [] pair one = absurd (cc one.1)
from_generator n (h ∷ generators) pair (zero, is) = (h, (0, refl), cc is)
from_generator n (h ∷ generators) pair (suc index, is) =
    let found = from_generator n generators pair (index, is) in
    let place = found.1 in (found.0, (suc place.0, place.1), found.2)

of_generator : (n : ℕ) (generators : List (List ℕ)) (h : List ℕ) (place : ℕ) → slice_get generators place ≡ Some h
    → slice_get (map (marker_equation n) generators) place ≡ Some (marker_equation n h)
of_generator n [] h place is = absurd (cc is)
of_generator n (first ∷ generators) h zero is =
    let same : first ≡ h = cc is in ap (λ (w : List ℕ). Some (marker_equation n w)) same
of_generator n (first ∷ generators) h (suc place) is = of_generator n generators h place is

module _ (n : ℕ) (generators : List (List ℕ)) (parts : PresentationParts) where
  inverses_same : inverse_relations 1 (parts.inverses ++ None ∷ []) ≡ inverse_relations 1 parts.inverses
  inverses_same = without_inverse 1 parts.inverses

  pub marked_relation : (pair : Pair) → OneOf (relations (marked_parts n generators parts)) pair
      → IsMarkedRelation n generators (relations parts) pair
  marked_relation pair one =
      let marks_at = map (marker_equation n) generators in
      elim (one_of_append (parts.equations ++ marks_at) (inverse_relations 1 (parts.inverses ++ None ∷ [])) pair one) [
        | inl equation ↦ elim (one_of_append parts.equations marks_at pair equation) [
          | inl old ↦ was_given (one_of_first parts.equations (inverse_relations 1 parts.inverses) pair old)
          | inr new ↦ let found = from_generator n generators pair new in marks found.0 found.1 found.2
        ]
        | inr inverse ↦
            let P : List Pair → Type 0 = λ pairs. OneOf pairs pair in
            was_given
            (one_of_second parts.equations (inverse_relations 1 parts.inverses) pair (subst P inverses_same inverse))
      ]

  pub given_is_marked : (pair : Pair) → OneOf (relations parts) pair → OneOf (relations (marked_parts n generators parts)) pair
  given_is_marked pair one =
      let marks_at = map (marker_equation n) generators in
      let none = inverse_relations 1 (parts.inverses ++ None ∷ []) in
      elim (one_of_append parts.equations (inverse_relations 1 parts.inverses) pair one) [
        | inl equation ↦
            one_of_first (parts.equations ++ marks_at) none pair (one_of_first parts.equations marks_at pair equation)
        | inr inverse ↦
            let P : List Pair → Type 0 = λ pairs. OneOf pairs pair in
            one_of_second (parts.equations ++ marks_at) none pair (subst P (sym inverses_same) inverse)
      ]

  pub marks_is_marked : (h : List ℕ) → IsGenerator generators h
      → OneOf (relations (marked_parts n generators parts)) (marker_equation n h)
  marks_is_marked h is =
      let marks_at = map (marker_equation n) generators in
      let none = inverse_relations 1 (parts.inverses ++ None ∷ []) in
      one_of_first (parts.equations ++ marks_at) none (marker_equation n h)
      (one_of_second parts.equations marks_at (marker_equation n h) (is.0, of_generator n generators h is.0 is.1))
