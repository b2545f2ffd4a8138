-- The test by prime overlaps. Row i has those in which rule i begins first, from 0 on.
use Rattle.std.specs.Prelude.{ℕ, List}
use Rattle.kb_word.specs.Words.{Pair}
use Rattle.kb_word.specs.Overlap.{OverlapOf, IsResolved, critical_pair}
use Rattle.kb_overlap.specs.Composite.{IsPrime}

-- each prime overlap of the row is joined
abbrev pub PrimesOfRowAreJoined : List Pair → ℕ → Type 0
PrimesOfRowAreJoined rules i = (j place : ℕ) (first second : Pair) → OverlapOf rules i j place first second
    → IsPrime rules first.0 second.0 place → IsResolved rules (critical_pair first second place)
