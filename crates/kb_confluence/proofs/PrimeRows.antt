-- How far the test by prime overlaps has come in a row, and what the shares of all rows say.
use Rattle.std.proofs.Common.{◌≡◌, ℕ, ◌+◌, ◌<◌, ◌≤◌, List, length, get_or, Some, refl, sym, ◌∙◌, ap, subst, inl, inr, arith, IsTrue}
use Rattle.std.specs.Prelude.{slice_get}
use Rattle.std.specs.List.{All}
use Rattle.std.proofs.lemmas.Bool.{cases_lt}
use Rattle.std.proofs.lemmas.List.{get_or_default}
use Rattle.std.proofs.lemmas.Option.{slice_get_read, slice_get_within}
use Rattle.kb_word.specs.Words.{Pair}
use Rattle.kb_word.specs.Overlap.{Overlaps, OverlapOf, IsResolved, critical_pair}
use Rattle.kb_overlap.specs.Composite.{ArePrimeOverlaps, IsPrimeOverlap, PrimesAreJoined}
use Rattle.kb_overlap.specs.declared.left_sides.Overlap.{Overlap}
use Rattle.kb_draw.specs.Sharing.{IsShared}
use Rattle.kb_confluence.specs.PrimeRows.{PrimesOfRowAreJoined}
use Rattle.kb_confluence.specs.declared.shares.PrimeShare.{PrimeShare}
use Rattle.kb_confluence.proofs.Checking.{IsJoinedAt, AreJoinedBefore}

-- ---- one row

some-injective : {x y : Pair} → Some x ≡ Some y → x ≡ y
some-injective e = cc

module _ (rules : List Pair) (i : ℕ) (first : Pair) (overlaps : List Overlap) (is_first : slice_get rules i ≡ Some first)
    (row : ArePrimeOverlaps rules i overlaps) where
  -- what stands at a place of the list
  prime_at : (k : ℕ) (at : Overlap) → k < length overlaps → at ≡ get_or overlaps k at → IsPrimeOverlap rules i at
  prime_at k at within is_at = subst (IsPrimeOverlap rules i) (sym is_at) (row.each k at within)

  pub prime_within : (k : ℕ) (at : Overlap) → k < length overlaps → at ≡ get_or overlaps k at → at.rule < length rules
  prime_within k at within is_at =
      let found = prime_at k at within is_at in slice_get_within rules at.rule found.second found.overlap.is_second

  -- what is read at its index
  pub prime_second : (k : ℕ) (at : Overlap) (rule : Pair) → k < length overlaps → at ≡ get_or overlaps k at
      → rule ≡ get_or rules at.rule rule → slice_get rules at.rule ≡ Some rule
  prime_second k at rule within is_at read =
      slice_get_read rules (length rules) at.rule rule refl (prime_within k at within is_at) read

  pub prime_overlaps : (k : ℕ) (at : Overlap) (second : Pair) → k < length overlaps → at ≡ get_or overlaps k at
      → slice_get rules at.rule ≡ Some second → Overlaps first.0 second.0 at.place
  prime_overlaps k at second within is_at is_second =
      let found = prime_at k at within is_at in
      let mine : found.first ≡ first = some-injective (sym found.overlap.is_first ∙ is_first) in
      let other : found.second ≡ second = some-injective (sym found.overlap.is_second ∙ is_second) in
      let P : Pair → Type 0 = λ pair. Overlaps pair.0 found.second.0 at.place in
      let Q : Pair → Type 0 = λ pair. Overlaps first.0 pair.0 at.place in
      subst Q other (subst P mine found.overlap.overlaps)

  -- one more overlap is joined
  pub primes_more : (next : ℕ) (at : Overlap) → AreJoinedBefore rules i first overlaps next → next < length overlaps
      → at ≡ get_or overlaps next at → IsJoinedAt rules i first at → AreJoinedBefore rules i first overlaps (next + 1)
  primes_more next at joined within is_at here k d low = elim (cases_lt k next) [
    | inl before ↦ joined k d before
    | inr from ↦
        let same : k ≡ next = omega arith in
        let is_here : at ≡ get_or overlaps k d =
        is_at ∙ get_or_default overlaps next at d within ∙ ap (λ n. get_or overlaps n d) (sym same) in
        subst (IsJoinedAt rules i first) is_here here
  ]

  -- past the last one the row is joined
  pub primes_all : (next : ℕ) → AreJoinedBefore rules i first overlaps next → length overlaps ≤ next → PrimesOfRowAreJoined rules i
  primes_all next joined past j place own other overlap prime =
      let here : Overlap = record { rule = j; place = place } in
      let is_own : own ≡ first = some-injective (sym overlap.is_first ∙ is_first) in
      let listed = row.all here (record { first = own; second = other; overlap = overlap; prime = prime }) in
      let k = listed.0 in
      let within = listed.1 in
      let P : Pair → Type 0 = λ rule. OverlapOf rules i j place rule other in
      let mine : OverlapOf rules i j place first other = subst P is_own overlap in
      let Q : Pair → Type 0 = λ rule. IsResolved rules (critical_pair rule other place) in
      let R : Overlap → Type 0 = λ o. IsJoinedAt rules i first o in
      subst Q (sym is_own) (subst R listed.2 (joined k here (omega (arith, within, past))) other mine)

-- ---- all rows

-- each row is done in one of the shares, and what any share took is joined
pub all_rows : (rules : List Pair) (shares : List PrimeShare)
    → IsShared (length rules) (λ share row. IsTrue share.joined → PrimesOfRowAreJoined rules row) shares
    → All (λ share. IsTrue share.joined) shares → PrimesAreJoined rules
all_rows rules shares shared all i j place first second overlap prime =
    let within = slice_get_within rules i first overlap.is_first in
    let one = shared i within in
    let among = one.among in
    let P : PrimeShare → Type 0 = λ share. IsTrue share.joined in
    one.did (subst P among.2 (all among.0 one.share among.1)) j place first second overlap prime
