-- All overlaps of a word with the left sides of rules.
use Rattle.std.specs.Prelude.{◌≡◌, ℕ, ◌<◌, ◌⊎◌, List, Some, slice_get}
use Rattle.std.specs.List.{All, AllPairs, Contains}
use Rattle.kb_word.specs.Words.{Pair}
use Rattle.kb_word.specs.Overlap.{Overlaps}
use Rattle.kb_overlap.specs.declared.left_sides.Overlap.{Overlap}

-- the word overlaps at the place with the left side of the rule that stands at the index
pub record OverlapsRule (rules : List Pair) (l : List ℕ) (index place : ℕ) : Type 0 where
  pub rule : Pair
  pub is_rule : slice_get rules index ≡ Some rule
  pub overlaps : Overlaps l rule.0 place

-- overlaps come in the order of their rules, then of their places
abbrev pub IsBefore : Overlap → Overlap → Type 0
IsBefore one other = (one.rule < other.rule) ⊎ ((one.rule ≡ other.rule) × (one.place < other.place))

-- these are exactly the overlaps of the word with left sides of the rules, strictly ascending
pub record AreOverlaps (rules : List Pair) (l : List ℕ) (found : List Overlap) : Type 0 where
  pub each : All (λ one. OverlapsRule rules l one.rule one.place) found
  pub all : (one : Overlap) → OverlapsRule rules l one.rule one.place → Contains found one
  pub ascending : AllPairs IsBefore found
