-- What follows where nothing is found in the rows of a version.
use Rattle.std.proofs.Common.{◌≡◌, ◌≢◌, ℕ, List, [], ◌∷◌, ◌++◌, length, refl, sym, ◌∙◌, subst, arith}
use Rattle.std.specs.List.{All}
use Rattle.kb_word.specs.Words.{Pair}
use Rattle.kb_draw.specs.Sharing.{IsShared}
use Rattle.kb_machine.specs.States.{State, live_rules}
use Rattle.kb_machine.specs.Course.{Course, IsSound}
use Rattle.kb_share.specs.Passes.{EntersApart, IsApart}
use Rattle.kb_share.specs.Versions.{VersionParts, version_of}
use Rattle.kb_share.specs.Primes.{SiftsRow, PrimesOfRowAreJoined}
use Rattle.kb_share.specs.declared.found.Apart.{Apart}
use Rattle.kb_share.specs.declared.found.Found.{Found}
use Rattle.kb_share.proofs.Overlapping.{apart_overlaps}
use Rattle.kb_share.proofs.Sieving.{none_found_joined}
use Rattle.kb_threads.specs.Shared.{AreOverlaps, EntersBatch}
use Rattle.kb_threads.specs.Sweeps.{RowsAreJoined}
use Rattle.kb_threads.specs.declared.sweeping.Sifted.{Sifted}

empty_left : (xs ys : List Apart) → xs ++ ys ≡ [] → xs ≡ []
empty_left [] ys e = refl
empty_left (x ∷ xs) ys e = cc

empty_right : (xs ys : List Apart) → xs ++ ys ≡ [] → ys ≡ []
empty_right [] ys e = e
empty_right (x ∷ xs) ys e = cc

-- nothing is found now, so nothing was found before
pub none_before : (before row after : List Apart) → after ≡ before ++ row → after ≡ [] → before ≡ []
none_before before row after is none = empty_left before row (sym is ∙ none)

-- all overlaps of a row were sifted, and nothing is found
pub row_joined : (version : VersionParts) (from index : ℕ) (before row after : List Apart) → SiftsRow version from index row
    → after ≡ before ++ row → from ≡ 0 → after ≡ [] → PrimesOfRowAreJoined version.rules index
row_joined version from index before row after sifts is all none =
    let P : ℕ → Type 0 = λ (n : ℕ). SiftsRow version n index row in
    none_found_joined version index row (empty_right before row (sym is ∙ none)) (subst P all sifts)

-- each row is done in one of the shares, and nothing is found in any
pub rows_joined : (rules : List Pair) (rows from : ℕ) (shares : List Sifted) → rows ≡ length rules → from ≡ 0
    → IsShared rows (λ share row. from ≡ 0 → share.found.items ≡ [] → PrimesOfRowAreJoined rules row) shares
    → All (λ share. share.found.items ≡ []) shares → RowsAreJoined rules
rows_joined rules rows from shares count all shared none row within =
    let one = shared row (omega (arith, within, count)) in
    let among = one.among in
    let P : Sifted → Type 0 = λ share. share.found.items ≡ [] in
    one.did all (subst P among.2 (none among.0 one.share among.1))

-- where no row of a book's version has anything apart, the rows of its live rules are joined
pub joined_given : (state : State) (version : VersionParts) → version ≡ version_of state → RowsAreJoined version.rules
    → RowsAreJoined (live_rules state)
joined_given state version same joined = subst (λ (v : VersionParts). RowsAreJoined v.rules) same joined

-- what is apart by a book's version are overlaps of its lines
pub overlaps_given : (course : Course) (batch : List Found) → IsSound course.problem course.state
    → All (IsApart (version_of course.state)) batch → AreOverlaps course batch
overlaps_given course batch sound apart = λ k d low. apart_overlaps course.problem course.state _ sound (apart k d low)

-- a batch of what is apart was entered
pub apart_entered : (before after : Course) (batch : List Found) → batch ≢ [] → All (IsApart (version_of before.state)) batch
    → EntersBatch before batch after → EntersApart before after
apart_entered before after batch some apart enters = record {
  found = batch;
  some = some;
  are_apart = apart;
  problem = enters.problem;
  state = enters.state;
}
