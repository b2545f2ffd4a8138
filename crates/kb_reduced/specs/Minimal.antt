-- The rules of the reduced system, as they are found among given rules.
use Rattle.std.specs.Prelude.{◌≡◌, ℕ, ◌-◌, ◌<◌, List, [], ◌∷◌, ◌++◌, length, take, drop, slice_get, Some}
use Rattle.std.specs.List.{AllPairs}
use Rattle.kb_word.specs.Words.{Pair, OneOf}
use Rattle.kb_word.specs.Rewriting.{IsIrreducible, NormalForm}

-- the word is irreducible without its first letter, and without its last
pub record PartsAreIrreducible (allowed : Pair → Type 0) (w : List ℕ) : Type 0 where
  pub behind_first : IsIrreducible allowed (drop 1 w)
  pub before_last : IsIrreducible allowed (take (length w - 1) w)

-- the left side's parts are irreducible, and the right side is its normal form
pub record IsMinimal (rules : List Pair) (rule : Pair) : Type 0 where
  pub parts : PartsAreIrreducible (OneOf rules) rule.0
  pub normal : NormalForm rules rule.0 rule.1

-- the left side with its normal form is added to the list, or nothing is, where its parts aren't irreducible
pub data AddsMinimal (rules : List Pair) (left : List ℕ) (before after : List Pair) : Type 0 where
  added : (right : List ℕ) → IsMinimal rules (left, right) → after ≡ before ++ (left, right) ∷ []
      → AddsMinimal rules left before after
  left_out : (¬ PartsAreIrreducible (OneOf rules) left) → after ≡ before
      → AddsMinimal rules left before after

-- the list has the minimal rules whose left sides are those of the first n rules
pub record HasMinimal (rules : List Pair) (n : ℕ) (minimal : List Pair) : Type 0 where
  pub each : (rule : Pair) → OneOf minimal rule → IsMinimal rules rule
  pub given : (rule : Pair) → OneOf minimal rule
      → (old_right : List ℕ) × OneOf rules (rule.0, old_right)
  pub all : (index : ℕ) (old rule : Pair) → index < n → slice_get rules index ≡ Some old
      → old.0 ≡ rule.0
      → IsMinimal rules rule → OneOf minimal rule

-- rules of one left side are one rule
abbrev pub HaveOneRightSide : List Pair → Type 0
HaveOneRightSide rules =
    (one other : Pair) → OneOf rules one → OneOf rules other → one.0 ≡ other.0 → one ≡ other

-- the same rules, each of them once, in the order of their left sides
pub record IsSortedFrom (below : List ℕ → List ℕ → Type 0) (rules sorted : List Pair) : Type 0 where
  pub each : (rule : Pair) → OneOf sorted rule → OneOf rules rule
  pub all : (rule : Pair) → OneOf rules rule → OneOf sorted rule
  pub in_order : AllPairs (λ (one other : Pair). below one.0 other.0) sorted
