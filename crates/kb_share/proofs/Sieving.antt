-- A row is sifted, one prime overlap after another.
use Rattle.std.proofs.Common.{◌≡◌, ℕ, ◌+◌, ◌<◌, ◌≤◌, ◌⊎◌, List, [], ◌∷◌, ◌++◌, length, get_or, Option, Some, None, refl, sym, ◌∙◌, ap, subst, inl, inr, arith}
use Rattle.std.specs.Prelude.{slice_get}
use Rattle.std.specs.List.{All}
use Rattle.std.proofs.lemmas.Bool.{cases_lt}
use Rattle.std.proofs.lemmas.List.{get_or_default}
use Rattle.std.proofs.lemmas.List.Elements.{All-push, Contains-append_left, Contains-append_right}
use Rattle.std.proofs.lemmas.Option.{slice_get_read, slice_get_within}
use Rattle.kb_word.specs.Words.{Pair}
use Rattle.kb_word.specs.Overlap.{OverlapOf, IsResolved, IsUnresolved, critical_pair}
use Rattle.kb_overlap.specs.Composite.{IsPrimeOverlap, ArePrimeOverlaps, PrimesAreJoined}
use Rattle.kb_overlap.specs.declared.left_sides.Overlap.{Overlap}
use Rattle.kb_share.specs.declared.found.Apart.{Apart}
use Rattle.kb_share.specs.Versions.{VersionParts}
use Rattle.kb_share.specs.Rows.{found_at}
use Rattle.kb_share.specs.Primes.{IsJoinedAt, IsApartAs, IsFrom, IsPrimeApart, IsFoundAs, LateSays, SiftsRow, PrimesOfRowAreJoined}

some-injective : {X : Type 0} {x y : X} → Some x ≡ Some y → x ≡ y
some-injective e = cc

-- where one of its lines has this number or a later one, the overlap is joined or found
abbrev pub IsSifted : VersionParts → ℕ → ℕ → List Apart → Overlap → Type 0
IsSifted version from index found overlap = IsFrom from version index overlap
    → IsJoinedAt version.rules index overlap ⊎ IsFoundAs version index overlap found

-- each of the first prime overlaps is sifted
pub record SiftedUpTo (version : VersionParts) (from index : ℕ) (overlaps : List Overlap) (next : ℕ) (found : List Apart) : Type 0 where
  pub each : All (IsPrimeApart version index) found
  pub all : (k : ℕ) (d : Overlap) → k < next → IsSifted version from index found (get_or overlaps k d)

pub nothing_sifted : (version : VersionParts) (from index : ℕ) (overlaps : List Overlap) (found : List Apart) → found ≡ []
    → SiftedUpTo version from index overlaps 0 found
nothing_sifted version from index overlaps found none = record {
  each = subst (All (IsPrimeApart version index)) (sym none) (λ k d low. absurd (let no : ⊥ = omega (arith, low) in no));
  all = λ k d low. absurd (let no : ⊥ = omega (arith, low) in no);
}

module _ (version : VersionParts) (from index : ℕ) (overlaps : List Overlap) where
  -- what was said of the first ones, with one more
  one_more : (next : ℕ) (at : Overlap) (P : Overlap → Type 0) → next < length overlaps → at ≡ get_or overlaps next at
      → ((k : ℕ) (d : Overlap) → k < next → P (get_or overlaps k d)) → P at
      → (k : ℕ) (d : Overlap) → k < next + 1 → P (get_or overlaps k d)
  one_more next at P within is_at before here k d low = elim (cases_lt k next) [
    | inl earlier ↦ before k d earlier
    | inr from ↦
        let same : k ≡ next = omega (arith, low, from) in
        let is_here : at ≡ get_or overlaps k d =
        is_at ∙ get_or_default overlaps next at d within ∙ ap (λ n. get_or overlaps n d) (sym same) in
        subst P is_here here
  ]

  still_found : (found : List Apart) (one : Apart) (overlap : Overlap) → IsFoundAs version index overlap found
      → IsFoundAs version index overlap (found ++ one ∷ [])
  still_found found one overlap it = record {
    one = it.one;
    contained = Contains-append_left found (one ∷ []) it.one it.contained;
    apart = it.apart;
  }

  -- the next one is joined, or both its lines are earlier
  pub next_joined : (next : ℕ) (at : Overlap) (found : List Apart) → next < length overlaps → at ≡ get_or overlaps next at
      → (IsFrom from version index at → IsJoinedAt version.rules index at) → SiftedUpTo version from index overlaps next found
      → SiftedUpTo version from index overlaps (next + 1) found
  next_joined next at found within is_at joined so_far = record {
    each = so_far.each;
    all = one_more next at (IsSifted version from index found) within is_at so_far.all (λ late. inl (joined late));
  }

  -- the next one is apart
  pub next_apart : (next : ℕ) (at : Overlap) (found : List Apart) (one : Apart) → next < length overlaps → at ≡ get_or overlaps next at
      → IsPrimeOverlap version.rules index at → IsApartAs version index at one → SiftedUpTo version from index overlaps next found
      → SiftedUpTo version from index overlaps (next + 1) (found ++ one ∷ [])
  next_apart next at found one within is_at prime apart so_far = record {
    each = All-push (IsPrimeApart version index) found one so_far.each (record { overlap = at; prime = prime; apart = apart });
    all = one_more next at (IsSifted version from index (found ++ one ∷ [])) within is_at
        (λ k d low late. elim (so_far.all k d low late) [
          | inl joined ↦ inl joined
          | inr it ↦ inr (still_found found one (get_or overlaps k d) it)
        ])
        (λ late. inr (record {
          one = one;
          contained = Contains-append_right found (one ∷ []) one (0, omega arith, refl);
          apart = apart;
        }));
  }

  -- past the last one the row is sifted
  pub all_sifted : (next : ℕ) (found : List Apart) → ArePrimeOverlaps version.rules index overlaps → length overlaps ≤ next
      → SiftedUpTo version from index overlaps next found → SiftsRow version from index found
  all_sifted next found primes past so_far = record {
    each = so_far.each;
    all = λ overlap prime.
        let at = primes.all overlap prime in
        let within = at.1 in
        subst (IsSifted version from index found) at.2 (so_far.all at.0 overlap (omega (arith, within, past)));
  }

-- the next one is prime
pub is_prime : (rules : List Pair) (index : ℕ) (overlaps : List Overlap) (next : ℕ) (at : Overlap) → ArePrimeOverlaps rules index overlaps
    → next < length overlaps → at ≡ get_or overlaps next at → IsPrimeOverlap rules index at
is_prime rules index overlaps next at primes within is_at =
    subst (IsPrimeOverlap rules index) (sym is_at) (primes.each next at within)

-- where one pair of rules at these indices is joined, each is
pub joined_at : (rules : List Pair) (index : ℕ) (one : Overlap) (first second : Pair) → slice_get rules index ≡ Some first
    → slice_get rules one.rule ≡ Some second → IsResolved rules (critical_pair first second one.place) → IsJoinedAt rules index one
joined_at rules index one first second is_first is_second joined = λ other another overlap.
    let same_first : first ≡ other = some-injective (sym is_first ∙ overlap.is_first) in
    let same_second : second ≡ another = some-injective (sym is_second ∙ overlap.is_second) in
    let P : Pair → Type 0 = λ rule. IsResolved rules (critical_pair rule another one.place) in
    let Q : Pair → Type 0 = λ rule. IsResolved rules (critical_pair first rule one.place) in
    subst P same_first (subst Q same_second joined)

-- the rule that is read at an index
pub read_at : (rules read : List Pair) (k : ℕ) (rule known : Pair) → slice_get rules k ≡ Some known → read ≡ rules
    → rule ≡ get_or read k rule → slice_get rules k ≡ Some rule
read_at rules read k rule known is_known same is =
    slice_get_read rules (length rules) k rule refl (slice_get_within rules k known is_known)
    (is ∙ ap (λ (r : List Pair). get_or r k rule) same)

-- a prime overlap whose words have different normal forms is apart
pub is_apart_as : (version : VersionParts) (index : ℕ) (overlap : Overlap) (first second reduced : Pair) (one : Apart)
    → slice_get version.rules index ≡ Some first → slice_get version.rules overlap.rule ≡ Some second
    → IsPrimeOverlap version.rules index overlap
    → IsUnresolved version.rules (critical_pair first second overlap.place) reduced.0 reduced.1
    → one.found ≡ found_at version.numbers index overlap → one.letters ≡ length reduced.0 + length reduced.1
    → IsApartAs version index overlap one
is_apart_as version index overlap first second reduced one is_first is_second prime parts found letters =
    let same_first : prime.first ≡ first = some-injective (sym prime.overlap.is_first ∙ is_first) in
    let same_second : prime.second ≡ second = some-injective (sym prime.overlap.is_second ∙ is_second) in
    let P : Pair → Type 0 = λ rule. OverlapOf version.rules index overlap.rule overlap.place rule prime.second in
    let Q : Pair → Type 0 = λ rule. OverlapOf version.rules index overlap.rule overlap.place first rule in
    record {
      apart = record {
        first = first;
        second = second;
        overlap = subst Q same_second (subst P same_first prime.overlap);
        u = reduced.0;
        v = reduced.1;
        parts = parts;
      };
      found = found;
      letters = letters;
    }

-- what was answered, by cases
pub nothing_found : (version : VersionParts) (from index : ℕ) (one : Overlap) (found : Option Apart) → None ≡ found
    → LateSays version from index one found → IsFrom from version index one → IsJoinedAt version.rules index one
nothing_found version from index one found e says = subst (λ (o : Option Apart). LateSays version from index one o) (sym e) says

pub something_found : (version : VersionParts) (from index : ℕ) (one : Overlap) (found : Option Apart) (it : Apart) → found ≡ Some it
    → LateSays version from index one found → IsApartAs version index one it
something_found version from index one found it e says = subst (λ (o : Option Apart). LateSays version from index one o) e says

-- where nothing was found in a row from the first line on, it is joined
pub none_found_joined : (version : VersionParts) (index : ℕ) (found : List Apart) → found ≡ [] → SiftsRow version 0 index found
    → PrimesOfRowAreJoined version.rules index
none_found_joined version index found none sifts = λ overlap prime. elim (sifts.all overlap prime (inl (omega arith))) [
  | inl joined ↦ joined
  | inr it ↦
      let at = it.contained in
      let within = at.1 in
      let empty = ap length none in
      absurd (let no : ⊥ = omega (arith, within, empty) in no)
]

-- where all rows are joined, all prime overlaps are
pub rows_joined : (rules : List Pair) → ((index : ℕ) → index < length rules → PrimesOfRowAreJoined rules index) → PrimesAreJoined rules
rows_joined rules rows i j place first second overlap prime =
    rows i (slice_get_within rules i first overlap.is_first) (record { rule = j; place = place })
    (record { first = first; second = second; overlap = overlap; prime = prime }) first second overlap
