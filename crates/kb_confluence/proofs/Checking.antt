-- How far the check of a row has come: each of its overlaps before the next one is joined.
use Rattle.std.proofs.Common.{◌≡◌, ℕ, ◌+◌, ◌<◌, ◌≤◌, List, length, get_or, Some, refl, sym, ◌∙◌, ap, subst, inl, inr, arith}
use Rattle.std.specs.Prelude.{slice_get}
use Rattle.std.proofs.lemmas.Bool.{cases_lt, cases_eq}
use Rattle.std.proofs.lemmas.List.{get_or_default}
use Rattle.std.proofs.lemmas.Option.{slice_get_read, slice_get_within}
use Rattle.kb_word.specs.Words.{Pair}
use Rattle.kb_word.specs.Overlap.{Overlaps, OverlapOf, IsResolved, IsUnresolved, critical_pair}
use Rattle.kb_overlap.specs.Overlapping.{AreOverlaps, IsBefore, OverlapsRule}
use Rattle.kb_overlap.specs.declared.left_sides.Overlap.{Overlap}
use Rattle.kb_confluence.specs.Rows.{RowIsJoined, EarlierOfRowAreJoined, IsFirstOfRow}

-- the overlap of the first rule, of index i, with the rule of another index, where it is one, is joined
abbrev pub IsJoinedAt : List Pair → ℕ → Pair → Overlap → Type 0
IsJoinedAt rules i first one = (second : Pair) → OverlapOf rules i one.rule one.place first second
    → IsResolved rules (critical_pair first second one.place)

-- the overlaps of a row before the next one are joined
abbrev pub AreJoinedBefore : List Pair → ℕ → Pair → List Overlap → ℕ → Type 0
AreJoinedBefore rules i first overlaps next = (k : ℕ) (d : Overlap) → k < next → IsJoinedAt rules i first (get_or overlaps k d)

some-injective : {x y : Pair} → Some x ≡ Some y → x ≡ y
some-injective e = cc

-- the rule at the index of an overlap
pub rule_within : (rules : List Pair) (l : List ℕ) (overlaps : List Overlap) (k : ℕ) (one : Overlap) → AreOverlaps rules l overlaps
    → k < length overlaps → one ≡ get_or overlaps k one → one.rule < length rules
rule_within rules l overlaps k one row within is_one =
    let found = row.each k one within in
    let index : one.rule ≡ (get_or overlaps k one).rule = ap (λ (o : Overlap). o.rule) is_one in
    let low = slice_get_within rules _ found.rule found.is_rule in
    omega arith

-- what is read at that index
pub rule_at : (rules : List Pair) (l : List ℕ) (overlaps : List Overlap) (k : ℕ) (one : Overlap) (rule : Pair)
    → AreOverlaps rules l overlaps → k < length overlaps → one ≡ get_or overlaps k one → rule ≡ get_or rules one.rule rule → slice_get rules one.rule ≡ Some rule
rule_at rules l overlaps k one rule row within is_one read =
    slice_get_read rules (length rules) one.rule rule refl (rule_within rules l overlaps k one row within is_one) read

-- where the critical pair with the rule at that index is joined, the overlap is
pub same_second : (rules : List Pair) (i : ℕ) (first : Pair) (one : Overlap) (second : Pair) → slice_get rules one.rule ≡ Some second
    → IsResolved rules (critical_pair first second one.place) → IsJoinedAt rules i first one
same_second rules i first one second is_second joined other overlap =
    let P : Pair → Type 0 = λ rule. IsResolved rules (critical_pair first rule one.place) in
    subst P (some-injective (sym is_second ∙ overlap.is_second)) joined

-- the rule that is read at the index of an overlap is the one that overlaps
pub overlaps_second : (rules : List Pair) (l : List ℕ) (overlaps : List Overlap) (k : ℕ) (one : Overlap) (second : Pair)
    → AreOverlaps rules l overlaps → k < length overlaps → one ≡ get_or overlaps k one → slice_get rules one.rule ≡ Some second → Overlaps l second.0 one.place
overlaps_second rules l overlaps k one second row within is_one is_second =
    let P : Overlap → Type 0 = λ o. OverlapsRule rules l o.rule o.place in
    let found = subst P (sym is_one) (row.each k one within) in
    let same : found.rule ≡ second = some-injective (sym found.is_rule ∙ is_second) in
    let Q : Pair → Type 0 = λ pair. Overlaps l pair.0 one.place in
    subst Q same found.overlaps

module _ (rules : List Pair) (i : ℕ) (first : Pair) (overlaps : List Overlap) (is_first : slice_get rules i ≡ Some first)
    (row : AreOverlaps rules first.0 overlaps) where
  -- an overlap of the row that isn't past the next one is joined
  row_joined : (next l q : ℕ) (one other : Pair) → AreJoinedBefore rules i first overlaps next → OverlapOf rules i l q one other
      → ((k : ℕ) (d : Overlap) → next ≤ k → k < length overlaps → get_or overlaps k d ≡ record { rule = l; place = q } → ⊥)
      → IsResolved rules (critical_pair one other q)
  row_joined next l q one other joined overlap not_later =
      let here : Overlap = record { rule = l; place = q } in
      let is_one : one ≡ first = some-injective (sym overlap.is_first ∙ is_first) in
      let P : Pair → Type 0 = λ rule. OverlapOf rules i l q rule other in
      let mine : OverlapOf rules i l q first other = subst P is_one overlap in
      let listed = row.all here (record { rule = other; is_rule = mine.is_second; overlaps = mine.overlaps }) in
      let k = listed.0 in
      let Q : Pair → Type 0 = λ rule. IsResolved rules (critical_pair rule other q) in
      elim (cases_lt k next) [
        | inl before ↦
            let R : Overlap → Type 0 = λ o. IsJoinedAt rules i first o in
            subst Q (sym is_one) (subst R listed.2 (joined k here before) other mine)
        | inr later ↦ absurd (not_later k here later listed.1 listed.2)
      ]

  -- all overlaps before the next one of the row are joined
  pub earlier_in_row : (next : ℕ) (at : Overlap) → AreJoinedBefore rules i first overlaps next → next < length overlaps
      → at ≡ get_or overlaps next at → EarlierOfRowAreJoined rules i at.rule at.place
  earlier_in_row next at joined within is_at l q one other low overlap =
      row_joined next l q one other joined overlap (λ m d from inside e.
      let before : IsBefore (record { rule = l; place = q }) at = low in
      elim (cases_eq m next) [
        | inl here ↦
            let is_same : record { rule = l; place = q } ≡ at =
            sym e ∙ ap (λ n. get_or overlaps n d) here ∙ get_or_default overlaps next d at within ∙ sym is_at in
            let index : l ≡ at.rule = ap (λ (o : Overlap). o.rule) is_same in
            let place : q ≡ at.place = ap (λ (o : Overlap). o.place) is_same in
            absurd (let no : ⊥ = omega (arith, before) in no)
        | inr apart ↦
            let ascends : IsBefore (get_or overlaps next d) (get_or overlaps m d) = row.ascending next m d (omega arith) inside in
            let is_here : get_or overlaps next d ≡ at = get_or_default overlaps next d at within ∙ sym is_at in
            let index : (get_or overlaps next d).rule ≡ at.rule = ap (λ (o : Overlap). o.rule) is_here in
            let place : (get_or overlaps next d).place ≡ at.place = ap (λ (o : Overlap). o.place) is_here in
            let index' : (get_or overlaps m d).rule ≡ l = ap (λ (o : Overlap). o.rule) e in
            let place' : (get_or overlaps m d).place ≡ q = ap (λ (o : Overlap). o.place) e in
            absurd (let no : ⊥ = omega (arith, before, ascends) in no)
      ])

  -- past the last overlap the row is joined
  pub row_all : (next : ℕ) → AreJoinedBefore rules i first overlaps next → length overlaps ≤ next → RowIsJoined rules i
  row_all next joined past l q one other overlap = row_joined next l q one other joined overlap (λ m d later inside e. omega arith)

  -- one more overlap of the row is joined
  pub row_more : (next : ℕ) (at : Overlap) → AreJoinedBefore rules i first overlaps next → next < length overlaps
      → at ≡ get_or overlaps next at → IsJoinedAt rules i first at → AreJoinedBefore rules i first overlaps (next + 1)
  row_more next at joined within is_at here k d low = elim (cases_lt k next) [
    | inl before ↦ joined k d before
    | inr from ↦
        let same : k ≡ next = omega arith in
        let is_here : at ≡ get_or overlaps k d =
        is_at ∙ get_or_default overlaps next at d within ∙ ap (λ n. get_or overlaps n d) (sym same) in
        subst (IsJoinedAt rules i first) is_here here
  ]

  -- the next overlap of the row is the first that is apart
  pub apart_in_row : (next : ℕ) (at : Overlap) (second : Pair) (u v : List ℕ) → AreJoinedBefore rules i first overlaps next
      → next < length overlaps → at ≡ get_or overlaps next at → slice_get rules at.rule ≡ Some second → (i ≡ at.rule → 0 < at.place)
      → IsUnresolved rules (critical_pair first second at.place) u v → IsFirstOfRow rules i at.rule at.place u v
  apart_in_row next at second u v joined within is_at is_second proper parts = record {
    first = first;
    second = second;
    overlap = record {
      is_first = is_first;
      is_second = is_second;
      overlaps = overlaps_second rules first.0 overlaps next at second row within is_at is_second;
      proper = proper;
    };
    parts = parts;
    earlier = earlier_in_row next at joined within is_at;
  }
