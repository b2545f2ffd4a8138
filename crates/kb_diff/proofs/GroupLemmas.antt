-- The words of a group have inverses, and its rules leave the empty word.
use Rattle.std.proofs.Common.{◌≡◌, inl, inr, ℕ, ◌+◌, ◌<◌, ◌≤◌, nat_eq, true≢false, if◌then◌else◌, List, [], ◌∷◌, ◌++◌, length, get_or, Option, None, is_some, sym, ap, ◌∙◌, subst, length-append, arith}
use Rattle.std.proofs.lemmas.Bool.{cases_Bool, cases_eq, eq-eqb}
use Rattle.std.proofs.lemmas.Option.{none-some}
use Rattle.kb_word.specs.Words.{Pair, OneOf}
use Rattle.kb_word.specs.Relations.{IsOver, inverse_letter, inverse_word}
use Rattle.kb_word.specs.Rewriting.{AreDecreasing, IsIrreducible}
use Rattle.kb_word.specs.WordOrders.{Below}
use Rattle.kb_word.specs.WordOrderLaws.{word_orders}
use Rattle.kb_word.specs.declared.word_order.WordOrder.{WordOrder}
use Rattle.kb_word.proofs.InverseLemmas.{lacks_inverse}
use Rattle.kb_rules.proofs.Exists.{nothing_below_empty}
use Rattle.kb_fsa.specs.Padding.{letters_of}
use Rattle.kb_diff.specs.Groups.{EachInverts}
use Rattle.kb_diff.proofs.Places.{nothing_left}

-- a word over the generators has an inverse
pub has_inverse : (n : ℕ) (inverses : List (Option ℕ)) (w : List ℕ) → EachInverts n inverses → IsOver n w → inverse_word inverses w ≡ None → ⊥
has_inverse n inverses w each over none =
    let found = (lacks_inverse inverses w).0 (ap is_some none) in
    let P : ℕ → Type 0 = λ x. (0 < x) × (x ≤ n) in
    let letter = subst P found.3 (over found.0 found.1 found.2) in
    let inverse = each found.1 letter.0 letter.1 in
    none-some inverse.0 (sym found.4 ∙ inverse.1)

-- rules that decrease leave the empty word
pub empty_is_irreducible : (order : WordOrder) (rules : List Pair) → AreDecreasing (Below order) rules → IsIrreducible (OneOf rules) []
empty_is_irreducible order rules decreasing before rule later one is =
    let long = length-append (before ++ rule.0) later in
    let left = length-append before rule.0 in
    let none : rule.0 ≡ [] = nothing_left rule.0 (omega (arith, ap length is)) in
    let P : List ℕ → Type 0 = λ w. Below order rule.1 w in
    nothing_below_empty (word_orders order) rule.1 (subst P none (decreasing rule one))

-- a letter of pairs that isn't the padding has an inverse
pub has_letter_inverse : (n : ℕ) (inverses : List (Option ℕ)) (number letter : ℕ) → EachInverts n inverses → 0 < number → number ≤ n + 1
    → letter ∷ [] ≡ letters_of n number → inverse_letter inverses letter ≡ None → ⊥
has_letter_inverse n inverses number letter each positive within is none = elim (cases_Bool (nat_eq number (n + 1))) [
  | inl padding ↦
      let empty : letters_of n number ≡ [] = ap (λ b. if b then [] else number ∷ []) padding in
      let count : 1 ≡ 0 = ap length (is ∙ empty) in absurd (omega (arith, count))
  | inr other ↦
      let alone : letters_of n number ≡ number ∷ [] = ap (λ b. if b then [] else number ∷ []) other in
      let same : letter ≡ number = ap (λ (l : List ℕ). get_or l 0 0) (is ∙ alone) in
      let less : number ≤ n = elim (cases_eq number (n + 1)) [
        | inl padding ↦ absurd (true≢false (sym (eq-eqb number (n + 1) padding) ∙ other))
        | inr apart ↦ omega (arith, apart)
      ] in
      let inverse = each number positive less in
      none-some inverse.0 (sym none ∙ (ap (inverse_letter inverses) same ∙ inverse.1))
]
