-- The letters of a presentation's defining relations are its generators.
use Rattle.std.proofs.Common.{◌≡◌, ℕ, zero, suc, ◌+◌, ◌<◌, ◌≤◌, List, [], ◌∷◌, ◌++◌, length, Option, Some, None, refl, ap, subst, inl, inr, ◌⊎◌, arith}
use Rattle.std.specs.Prelude.{slice_get, option_and_then}
use Rattle.std.proofs.lemmas.Option.{slice_get_within}
use Rattle.std.proofs.lemmas.List.Elements.{All-nil, All-cons}
use Rattle.kb_word.specs.Words.{Pair, OneOf}
use Rattle.kb_word.specs.Relations.{inverse_letter, inverse_relations, relations_of, IsOver, IsPresentation}
use Rattle.kb_word.specs.declared.word_order.WordOrder.{WordOrder}

-- both sides of the pair are words over n letters
IsPairOver : ℕ → Pair → Type 0
IsPairOver n pair = IsOver n pair.0 × IsOver n pair.1

-- a pair of one list after another is one of the first or of the second
pub one_of_append : (pairs more : List Pair) (pair : Pair) → OneOf (pairs ++ more) pair → OneOf pairs pair ⊎ OneOf more pair
one_of_append [] more pair one = inr one
one_of_append (first ∷ pairs) more pair (zero, is) = inl (0, is)
one_of_append (first ∷ pairs) more pair (suc index, is) = elim (one_of_append pairs more pair (index, is)) [
  | inl one ↦ inl (suc one.0, one.1)
  | inr one ↦ inr one
]

-- what has an inverse is a generator
has_inverse : (inverses : List (Option ℕ)) (x y : ℕ) → inverse_letter inverses x ≡ Some y → (0 < x) × (x ≤ length inverses)
has_inverse inverses zero y is = absurd (cc is)
has_inverse inverses (suc place) y is = within inverses place y is
  where
    at : (inverses : List (Option ℕ)) (place y : ℕ) (o : Option (Option ℕ)) → slice_get inverses place ≡ o
        → option_and_then (λ inverse. inverse) o ≡ Some y → place < length inverses
    at inverses place y None e is = absurd (cc is)
    at inverses place y (Some inverse) e is = slice_get_within inverses place inverse e

    within : (inverses : List (Option ℕ)) (place y : ℕ) → option_and_then (λ inverse. inverse) (slice_get inverses place) ≡ Some y
        → (0 < suc place) × (suc place ≤ length inverses)
    within inverses place y is =
        let low = at inverses place y (slice_get inverses place) refl is in (omega arith, omega (arith, low))

-- the letters of the inverse relations from letter x on are generators, where the inverses are
inverses_over : (n x : ℕ) (inverses : List (Option ℕ)) → 0 < x → x + length inverses ≤ n + 1
    → ((place y : ℕ) → slice_get inverses place ≡ Some (Some y) → (0 < y) × (y ≤ n))
    → (pair : Pair) → OneOf (inverse_relations x inverses) pair → IsPairOver n pair
unfolding IsPairOver
inverses_over n x [] positive few are pair one = absurd (cc one.1)
inverses_over n x (None ∷ rest) positive few are pair one =
    inverses_over n (suc x) rest (omega arith) (omega (arith, few)) (λ place y is. are (suc place) y is) pair one
inverses_over n x (Some y ∷ rest) positive few are pair (suc index, is) =
    inverses_over n (suc x) rest (omega arith) (omega (arith, few)) (λ place y is. are (suc place) y is) pair (index, is)
inverses_over n x (Some y ∷ rest) positive few are pair (zero, is) =
    let P : ℕ → Type 0 = λ z. (0 < z) × (z ≤ n) in
    let Q : Pair → Type 0 = λ both. IsOver n both.0 × IsOver n both.1 in
    let same : (x ∷ y ∷ [], []) ≡ pair = cc is in
    let letter : P x = (positive, omega (arith, few)) in
    subst Q same (All-cons P x (y ∷ []) letter (All-cons P y [] (are 0 y refl) (All-nil P)), All-nil P)

-- the defining relations of a presentation are over its generators
pub relations_over : {n : ℕ} {order : WordOrder} {names : List (List ℕ)} {inverses : List (Option ℕ)} {equations : List Pair}
    → IsPresentation n order names inverses equations
    → (pair : Pair) → OneOf (relations_of inverses equations) pair → IsOver n pair.0 × IsOver n pair.1
unfolding IsPairOver
relations_over {n = n} {inverses = inverses} {equations = equations} is pair one =
    elim (one_of_append equations (inverse_relations 1 inverses) pair one) [
      | inl equation ↦ is.letters pair equation
      | inr inverse ↦
          let count = is.one_inverse_each in
          inverses_over n 1 inverses (omega arith) (omega (arith, count))
          (λ place y at.
          let back = has_inverse inverses y (suc place) (is.mutual_inverses (suc place) y (ap (option_and_then (λ inverse. inverse)) at)) in
          let P : ℕ → Type 0 = λ m. (0 < y) × (y ≤ m) in
          subst P count back)
          pair inverse
    ]
