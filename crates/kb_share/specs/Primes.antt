-- The prime overlaps in which one line begins first, and those among them that are apart.
use Rattle.std.specs.Prelude.{◌≡◌, ℕ, ◌+◌, ◌≤◌, ◌⊎◌, List, length, slice_index, Option, MatchOption}
use Rattle.std.specs.List.{All, Contains}
use Rattle.kb_word.specs.Words.{Pair}
use Rattle.kb_word.specs.Overlap.{OverlapOf, IsResolved, critical_pair}
use Rattle.kb_overlap.specs.Composite.{IsPrimeOverlap}
use Rattle.kb_overlap.specs.declared.left_sides.Overlap.{Overlap}
use Rattle.kb_share.specs.Rows.{IsApartAt, found_at}
use Rattle.kb_share.specs.Versions.{VersionParts}
use Rattle.kb_share.specs.declared.found.Apart.{Apart}

-- where the rule at the index overlaps as this says, the critical pair is joined
abbrev pub IsJoinedAt : List Pair → ℕ → Overlap → Type 0
IsJoinedAt rules index one =
    (first second : Pair) → OverlapOf rules index one.rule one.place first second
    → IsResolved rules (critical_pair first second one.place)

-- the overlap is apart, and this is it by the numbers of lines, with the letters of its two normal forms counted
pub record IsApartAs (version : VersionParts) (index : ℕ) (overlap : Overlap) (one : Apart) : Type 0 where
  pub apart : IsApartAt version.rules index overlap
  pub found : one.found ≡ found_at version.numbers index overlap
  pub letters : one.letters ≡ length apart.u + length apart.v

-- the overlap is found where it is apart, and joined otherwise
abbrev pub PrimeSays : VersionParts → ℕ → Overlap → Option Apart → Type 0
PrimeSays version index overlap found =
    MatchOption found (IsJoinedAt version.rules index overlap) (IsApartAs version index overlap)

-- one of the overlap's two lines has this number or a later one; from 0 on that is so of all
abbrev pub IsFrom : ℕ → VersionParts → ℕ → Overlap → Type 0
IsFrom from version index overlap = (from ≤ slice_index version.numbers index)
    ⊎ (from ≤ slice_index version.numbers overlap.rule)

-- where one of its lines has this number or a later one, the overlap is found if it is apart, and joined otherwise
abbrev pub LateSays : VersionParts → ℕ → ℕ → Overlap → Option Apart → Type 0
LateSays version from index overlap found =
    MatchOption found (IsFrom from version index overlap → IsJoinedAt version.rules index overlap)
    (IsApartAs version index overlap)

-- a prime overlap in which the line at the index begins first, and which is apart
pub record IsPrimeApart (version : VersionParts) (index : ℕ) (one : Apart) : Type 0 where
  pub overlap : Overlap
  pub prime : IsPrimeOverlap version.rules index overlap
  pub apart : IsApartAs version index overlap one

-- the overlap is one of those that were found
pub record IsFoundAs (version : VersionParts) (index : ℕ) (overlap : Overlap) (found : List Apart) : Type 0 where
  pub one : Apart
  pub contained : Contains found one
  pub apart : IsApartAs version index overlap one

-- the row was sifted: what was found is prime and apart, and each prime overlap of the row of which one line has this
-- number or a later one is joined or found
pub record SiftsRow (version : VersionParts) (from index : ℕ) (found : List Apart) : Type 0 where
  pub each : All (IsPrimeApart version index) found
  pub all : (overlap : Overlap) → IsPrimeOverlap version.rules index overlap
      → IsFrom from version index overlap
      → IsJoinedAt version.rules index overlap ⊎ IsFoundAs version index overlap found

-- each prime overlap of the row is joined
abbrev pub PrimesOfRowAreJoined : List Pair → ℕ → Type 0
PrimesOfRowAreJoined rules index =
    (overlap : Overlap) → IsPrimeOverlap rules index overlap → IsJoinedAt rules index overlap
