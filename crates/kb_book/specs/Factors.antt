-- Left sides of lines that stand in words.
use Rattle.std.specs.Prelude.{◌≡◌, ◌≢◌, ℕ, List, Some, slice_get}
use Rattle.std.specs.List.{Contains}
use Rattle.kb_word.specs.Words.{Pair, IsFactor}
use Rattle.kb_machine.specs.Lines.{numbered}

-- the left side of the rule with this number is a factor of the word
abbrev pub IsLeftFactor : List Pair → ℕ → List ℕ → Type 0
IsLeftFactor rules k w = (rule : Pair) × (numbered rules k ≡ Some rule) × IsFactor w rule.0

-- one of the numbers, other than k, is that of a rule whose left side is a factor of the word
abbrev pub HasOtherFactor : List Pair → List ℕ → ℕ → List ℕ → Type 0
HasOtherFactor rules live k w =
    (other : ℕ) × Contains live other × (other ≢ k) × IsLeftFactor rules other w

-- number k stands at the place among the live ones, and its left side has another live one as a factor
pub record IsReplaceable (rules : List Pair) (live : List ℕ) (k place : ℕ) : Type 0 where
  pub at : slice_get live place ≡ Some k
  pub own : Pair
  pub is_own : numbered rules k ≡ Some own
  pub has : HasOtherFactor rules live k own.0
