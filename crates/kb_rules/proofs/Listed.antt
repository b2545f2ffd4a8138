-- Lists of rules: a rule more at the end.
use Rattle.std.proofs.Common.{◌≡◌, ℕ, zero, suc, ◌+◌, ◌<◌, ◌≤◌, ◌⊎◌, List, [], ◌∷◌, ◌++◌, length, slice_get, get_or, Some, refl, sym, ap, ◌∙◌, subst, inl, inr, arith}
use Rattle.std.proofs.lemmas.Option.{same_Some, none-some, slice_get_read, slice_get_within}
use Rattle.std.proofs.lemmas.Bool.{cases_lt}
use Rattle.std.specs.List.{remove}
use Rattle.kb_word.specs.Words.{Pair, OneOf}
use Rattle.kb_word.specs.Rewriting.{AreDecreasing}

-- what is one of the list with a pair more at the end is one of the list, or that pair
pub cases_push : (pairs : List Pair) (last pair : Pair) (index : ℕ) → slice_get (pairs ++ last ∷ []) index ≡ Some pair
    → OneOf pairs pair ⊎ (last ≡ pair)
cases_push [] last pair zero is = inr (same_Some last pair is)
cases_push [] last pair (suc index) is = absurd (none-some pair is)
cases_push (p ∷ pairs) last pair zero is = inl (0, is)
cases_push (p ∷ pairs) last pair (suc index) is =
    elim (cases_push pairs last pair index is) [ inl one ↦ inl (suc one.0, one.1) | inr same ↦ inr same ]

-- rules stay decreasing with a decreasing rule more
pub AreDecreasing-push : (below : List ℕ → List ℕ → Type 0) (rules : List Pair) (rule : Pair) → AreDecreasing below rules
    → below rule.1 rule.0 → AreDecreasing below (rules ++ rule ∷ [])
AreDecreasing-push below rules rule decreasing less other one =
    elim (cases_push rules rule other one.0 one.1) [
      | inl before ↦ decreasing other before
      | inr same ↦ let P : Pair → Type 0 = λ p. below p.1 p.0 in subst P same less
    ]

-- what is one of the list with an element taken out is one of the list
one_of_removed : (pairs : List Pair) (at : ℕ) (pair : Pair) (index : ℕ) → slice_get (remove pairs at) index ≡ Some pair
    → OneOf pairs pair
one_of_removed [] zero pair index is = absurd (none-some pair is)
one_of_removed [] (suc at) pair index is = absurd (none-some pair is)
one_of_removed (p ∷ pairs) zero pair index is = (suc index, is)
one_of_removed (p ∷ pairs) (suc at) pair zero is = (0, is)
one_of_removed (p ∷ pairs) (suc at) pair (suc index) is =
    let later = one_of_removed pairs at pair index is in (suc later.0, later.1)

-- rules stay decreasing with one of them taken out
pub AreDecreasing-remove : (below : List ℕ → List ℕ → Type 0) (rules : List Pair) (at : ℕ) → AreDecreasing below rules
    → AreDecreasing below (remove rules at)
AreDecreasing-remove below rules at decreasing rule one = decreasing rule (one_of_removed rules at rule one.0 one.1)

-- no pair of the first n has the property
abbrev pub NoneBefore : (Pair → Type 0) → List Pair → ℕ → Type 0
NoneBefore P pairs n = (index : ℕ) (pair : Pair) → index < n → slice_get pairs index ≡ Some pair → ¬ P pair

pub NoneBefore-more : (P : Pair → Type 0) (pairs : List Pair) (n : ℕ) (next : Pair) → n < length pairs
    → next ≡ get_or pairs n next
    → NoneBefore P pairs n → (¬ P next) → NoneBefore P pairs (n + 1)
NoneBefore-more P pairs n next within is before apart index pair below at holds =
    elim (cases_lt index n) [
      | inl earlier ↦ before index pair earlier at holds
      | inr late ↦
          let same : index ≡ n = omega arith in
          let there : slice_get pairs n ≡ Some next = slice_get_read pairs (length pairs) n next refl within is in
          let both : next ≡ pair = same_Some next pair (sym there ∙ ap (slice_get pairs) (sym same) ∙ at) in
          apart (subst P (sym both) holds)
    ]

pub NoneBefore-all : (P : Pair → Type 0) (pairs : List Pair) (n : ℕ) → length pairs ≤ n → NoneBefore P pairs n
    → (pair : Pair) → OneOf pairs pair → ¬ P pair
NoneBefore-all P pairs n all before pair one =
    let within : one.0 < length pairs = slice_get_within pairs one.0 pair one.1 in
    before one.0 pair (omega arith) one.1
