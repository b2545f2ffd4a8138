-- The left sides in lexicographic order, and what a walk along the letters of a word finds among them.
use Rattle.std.specs.Prelude.{◌≡◌, ◌≢◌, ◌↔◌, ℕ, ◌<◌, false, List, ◌++◌, length, map, drop, nat_eq, Option, Some, slice_get, slice_index_or}
use Rattle.std.specs.List.{All, AllPairs, Contains, filter}
use Rattle.std.specs.Option.{option_eq}
use Rattle.std.specs.Ordering.{is_lt, nat_cmp}
use Rattle.std.specs.Cmp.Lexicographic.{slice_cmp}
use Rattle.kb_word.specs.Words.{Pair}
use Rattle.kb_rules.specs.Agreement.{AgreeAsFar}
use Rattle.kb_overlap.specs.declared.left_sides.Overlap.{Overlap}
use Rattle.kb_overlap.specs.declared.walk.Side.{Side}

-- from the depth on the letters of the first word don't come after those of the other, in lexicographic order
abbrev pub NotAfter : ℕ → Side → Side → Type 0
NotAfter depth one other =
    is_lt (slice_cmp nat_cmp (drop depth other.letters.now) (drop depth one.letters.now)) ≡ false

-- the left sides ascend by their letters from the depth on
abbrev pub InOrder : ℕ → List Side → Type 0
InOrder depth = AllPairs (NotAfter depth)

-- the left sides at whose depth this letter stands, or that have ended there where it is none
abbrev pub with_letter : ℕ → Option ℕ → List Side → List Side
with_letter depth letter =
    filter (λ side. option_eq nat_eq (slice_get side.letters.now depth) letter)

-- the overlap with a left side at this place
abbrev pub at_place : ℕ → Side → Overlap
at_place place side = record { rule = side.rule; place = place }

-- the left sides are of different rules
abbrev pub AreApart : List Side → Type 0
AreApart = AllPairs (λ one other. one.rule ≢ other.rule)

-- overlaps were added at the place with just those left sides that agree with the letters as far as both go
pub record Adds (sides : List Side) (letters : List ℕ) (place : ℕ)
    (before after : List Overlap) : Type 0 where
  pub added : List Side
  pub is : after ≡ before ++ map (at_place place) added
  pub exact : (side : Side)
      → Contains added side ↔ (Contains sides side × AgreeAsFar letters side.letters.now)
  pub apart : AreApart sides → AreApart added

-- the word of these letters overlaps with this left side at the place
pub record OverlapsSide (sides : List Side) (letters : List ℕ) (one : Overlap) : Type 0 where
  pub side : Side
  pub is_side : Contains sides side
  pub rule : side.rule ≡ one.rule
  pub within : one.place < length letters
  pub agree : AgreeAsFar (drop one.place letters) side.letters.now

-- these are the overlaps of the word with the left sides, each of them once
pub record Collects (sides : List Side) (letters : List ℕ) (found : List Overlap) : Type 0 where
  pub each : All (OverlapsSide sides letters) found
  pub all : (one : Overlap) → OverlapsSide sides letters one → Contains found one
  pub apart : AreApart sides → AllPairs (λ one other. one ≢ other) found

-- the left side is that of the rule at its index
pub record IsSideOf (rules : List Pair) (side : Side) : Type 0 where
  pub rule : Pair
  pub is_rule : slice_get rules side.rule ≡ Some rule
  pub left : side.letters.now ≡ rule.0

-- the left sides of the first rules, as many as are counted, in their order
pub record IsListed (rules : List Pair) (count : ℕ) (sides : List Side) : Type 0 where
  pub length_is : length sides ≡ count
  pub index : (k : ℕ) (side : Side) → k < length sides → (slice_index_or sides k side).rule ≡ k
  pub each : All (IsSideOf rules) sides

-- the left sides of the rules, each of them once, in lexicographic order
pub record AreSortedSides (rules : List Pair) (sides : List Side) : Type 0 where
  pub each : All (IsSideOf rules) sides
  pub every : (index : ℕ) → index < length rules
      → (side : Side) × Contains sides side × (side.rule ≡ index)
  pub apart : AreApart sides
  pub in_order : InOrder 0 sides
