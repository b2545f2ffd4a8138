-- Composite overlaps, which need no look, and prime ones, which do. Winkler, Buchberger, A criterion for eliminating
-- unnecessary reductions in the Knuth-Bendix algorithm (1983); Kapur, Musser, Narendran, Only prime superpositions need
-- be considered in the Knuth-Bendix completion procedure (1988).
use Rattle.std.specs.Prelude.{◌≡◌, ◌≢◌, ℕ, ◌+◌, ◌<◌, ◌≤◌, List, [], ◌++◌, length}
use Rattle.std.specs.List.{All, Contains}
use Rattle.kb_word.specs.Words.{Pair, OneOf}
use Rattle.kb_word.specs.Overlap.{OverlapOf, IsResolved, critical_pair, superposition}
use Rattle.kb_overlap.specs.declared.left_sides.Overlap.{Overlap}

-- v stands strictly inside w: it is a factor of w, neither at its beginning nor at its end
pub record StandsInside (w v : List ℕ) : Type 0 where
  pub before : List ℕ
  pub after : List ℕ
  pub whole : w ≡ before ++ v ++ after
  pub begins_later : before ≢ []
  pub ends_earlier : after ≢ []

-- of the words l and m, which overlap at the place of l, both stick out: m begins after l does, and ends after it
pub record BothStickOut (l m : List ℕ) (place : ℕ) : Type 0 where
  pub begins_later : 0 < place
  pub ends_later : length l < place + length m

-- some left side stands strictly inside the superposition
pub record IsComposite (rules : List Pair) (l m : List ℕ) (place : ℕ) : Type 0 where
  pub inner : Pair
  pub is_rule : OneOf rules inner
  pub inside : StandsInside (superposition l m place) inner.0

-- An overlap of the left sides l and m is prime where m is contained in l, or where both stick out and it isn't
-- composite. Where l is shorter than m and m begins with it, l is contained in m, and that overlap is prime.
pub data IsPrime (rules : List Pair) (l m : List ℕ) (place : ℕ) : Type 0 where
  contained : place + length m ≤ length l → IsPrime rules l m place
  proper : BothStickOut l m place → ¬ IsComposite rules l m place → IsPrime rules l m place

-- the critical pair of each prime overlap is joined
abbrev pub PrimesAreJoined : List Pair → Type 0
PrimesAreJoined rules = (i j place : ℕ) (first second : Pair) → OverlapOf rules i j place first second
    → IsPrime rules first.0 second.0 place → IsResolved rules (critical_pair first second place)

-- the rule at this index overlaps with another one at the place, and the overlap is prime
pub record IsPrimeOverlap (rules : List Pair) (index : ℕ) (one : Overlap) : Type 0 where
  pub first : Pair
  pub second : Pair
  pub overlap : OverlapOf rules index one.rule one.place first second
  pub prime : IsPrime rules first.0 second.0 one.place

-- these are exactly the prime overlaps in which the rule at this index begins first
pub record ArePrimeOverlaps (rules : List Pair) (index : ℕ) (found : List Overlap) : Type 0 where
  pub each : All (IsPrimeOverlap rules index) found
  pub all : (one : Overlap) → IsPrimeOverlap rules index one → Contains found one
