-- What a sweep of all rows shows.
use Rattle.std.specs.Prelude.{ℕ, ◌<◌, List, length}
use Rattle.kb_word.specs.Words.{Pair}
use Rattle.kb_share.specs.Primes.{PrimesOfRowAreJoined}

-- the prime overlaps of all rows are joined
abbrev pub RowsAreJoined : List Pair → Type 0
RowsAreJoined rules = (row : ℕ) → row < length rules → PrimesOfRowAreJoined rules row
