-- How far a pass has come: all overlaps that are apart in the first rows are found, in their order.
use Rattle.std.proofs.Common.{◌≡◌, ℕ, ◌+◌, ◌<◌, List, [], ◌++◌, length, get_or, Some, refl, sym, ◌∙◌, ap, subst, inl, inr, arith}
use Rattle.std.specs.Prelude.{slice_get, slice_index}
use Rattle.std.specs.List.{All, AllPairs, Contains}
use Rattle.std.proofs.lemmas.Bool.{cases_lt}
use Rattle.std.proofs.lemmas.List.Elements.{All-append, Contains-append_left, Contains-append_right}
use Rattle.std.proofs.lemmas.Option.{slice_get_within, slice_get-get_or, get_or_from_slice_get}
use Rattle.kb_word.specs.Words.{Pair}
use Rattle.kb_overlap.specs.Overlapping.{AreOverlaps}
use Rattle.kb_overlap.specs.Overlapping as overlapping
use Rattle.kb_overlap.specs.declared.left_sides.Overlap.{Overlap}
use Rattle.kb_share.specs.declared.found.Found.{Found}
use Rattle.kb_share.specs.Passes.{IsApart, IsBefore, AreAllApart}
use Rattle.kb_share.specs.Rows.{IsApartAt, found_at, Picks}
use Rattle.kb_share.proofs.Picking.{ComesFrom, each_picked, all_picked, picked_ascend, pairs_append}
use Rattle.kb_share.proofs.Ascending.{one_index}

-- an overlap that is apart, and in one of the first rows
pub record IsInRows (rules : List Pair) (numbers : List ℕ) (count : ℕ) (one : Found) : Type 0 where
  pub index : ℕ
  pub overlap : Overlap
  pub low : index < count
  pub apart : IsApartAt rules index overlap
  pub is : one ≡ found_at numbers index overlap

-- exactly the overlaps that are apart in the first rows are found, strictly ascending
pub record AreInRows (rules : List Pair) (numbers : List ℕ) (count : ℕ) (found : List Found) : Type 0 where
  pub each : All (IsInRows rules numbers count) found
  pub all : (index : ℕ) (one : Overlap) → index < count → IsApartAt rules index one → Contains found (found_at numbers index one)
  pub ascending : AllPairs IsBefore found

-- before the first row nothing is found
pub no_rows : (rules : List Pair) (numbers : List ℕ) → AreInRows rules numbers 0 []
no_rows rules numbers = record {
  each = λ k d low. absurd (let no : ⊥ = omega (arith, low) in no);
  all = λ index one low apart. absurd (let no : ⊥ = omega (arith, low) in no);
  ascending = λ i j d before within. absurd (let no : ⊥ = omega (arith, within) in no);
}

some-injective : {X : Type 0} {x y : X} → Some x ≡ Some y → x ≡ y
some-injective e = cc

module _ (rules : List Pair) (numbers : List ℕ) (one_each : length numbers ≡ length rules)
    (ascends : AllPairs (λ one other. one < other) numbers) where
  -- numbers ascend with indices
  number_below : (i j : ℕ) (rule : Pair) → i < j → slice_get rules j ≡ Some rule → slice_index numbers i < slice_index numbers j
  number_below i j rule before is_rule =
      let within = slice_get_within rules j rule is_rule in
      ascends i j 0 before (omega (arith, within, one_each))

  -- in a row the order is that of the overlaps
  row_order : (index : ℕ) (one other : Overlap) → IsApartAt rules index one → IsApartAt rules index other
      → overlapping.IsBefore one other → IsBefore (found_at numbers index one) (found_at numbers index other)
  row_order index one other apart apart' (inl low) =
      inr (refl, inl (number_below one.rule other.rule apart'.second low apart'.overlap.is_second))
  row_order index one other apart apart' (inr (same, low)) = inr (refl, inr (ap (slice_index numbers) same, low))

  in_more : (count : ℕ) (one : Found) → IsInRows rules numbers count one → IsInRows rules numbers (count + 1) one
  in_more count one at =
      let low = at.low in
      record { index = at.index; overlap = at.overlap; low = omega (arith, low); apart = at.apart; is = at.is }

  in_row : (index : ℕ) (overlaps : List Overlap) (one : Found) → ComesFrom (IsApartAt rules index) (found_at numbers index) overlaps one
      → IsInRows rules numbers (index + 1) one
  in_row index overlaps one from =
      record { index = index; overlap = from.source; low = omega arith; apart = from.holds; is = from.is }

  -- what was found before comes before what is found in the next row
  across : (index : ℕ) (first : Pair) (overlaps : List Overlap) (one other : Found) → slice_get rules index ≡ Some first
      → IsInRows rules numbers index one → ComesFrom (IsApartAt rules index) (found_at numbers index) overlaps other → IsBefore one other
  across index first overlaps one other is_first at from =
      let low = number_below at.index index first at.low is_first in
      let P : Found → Type 0 = λ it. IsBefore it other in
      let Q : Found → Type 0 = λ it. IsBefore (found_at numbers at.index at.overlap) it in
      subst P (sym at.is) (subst Q (sym from.is) (inl low))

  -- one more row
  pub row_more : (index : ℕ) (first : Pair) (overlaps : List Overlap) (found row : List Found) → slice_get rules index ≡ Some first
      → AreOverlaps rules first.0 overlaps → Picks (IsApartAt rules index) (found_at numbers index) overlaps row
      → AreInRows rules numbers index found → AreInRows rules numbers (index + 1) (found ++ row)
  row_more index first overlaps found row is_first are picks so_far = record {
    each = All-append (IsInRows rules numbers (index + 1)) found row
        (λ k d low. in_more index (get_or found k d) (so_far.each k d low))
        (λ k d low. in_row index overlaps (get_or row k d) (each_picked overlaps row picks k d low));
    all = λ i one low apart. elim (cases_lt i index) [
      | inl before ↦ Contains-append_left found row (found_at numbers i one) (so_far.all i one before apart)
      | inr from ↦
          let same : i ≡ index = omega (arith, low, from) in
          let P : ℕ → Type 0 = λ n. IsApartAt rules n one in
          let mine : IsApartAt rules index one = subst P same apart in
          let is_mine : mine.first ≡ first = some-injective (sym mine.overlap.is_first ∙ is_first) in
          let Q : Pair → Type 0 = λ rule. overlapping.OverlapsRule rules rule.0 one.rule one.place in
          let listed = are.all one (subst Q is_mine (record {
            rule = mine.second;
            is_rule = mine.overlap.is_second;
            overlaps = mine.overlap.overlaps;
          })) in
          let R : ℕ → Type 0 = λ n. Contains (found ++ row) (found_at numbers n one) in
          subst R (sym same) (Contains-append_right found row (found_at numbers index one)
          (all_picked overlaps row picks one listed mine))
    ];
    ascending = pairs_append IsBefore found row so_far.ascending
        (picked_ascend overlapping.IsBefore IsBefore (row_order index) overlaps row picks are.ascending)
        (λ i j d low low'. across index first overlaps (get_or found i d) (get_or row j d) is_first (so_far.each i d low)
        (each_picked overlaps row picks j d low'));
  }

  -- an overlap of indices is one of lines
  pub is_apart : (number count : ℕ) (one : Found) → IsInRows rules numbers count one
      → IsApart (record { number = number; numbers = numbers; rules = rules }) one
  is_apart number count one at =
      let apart = at.apart in
      let i = at.index in
      let j = at.overlap.rule in
      let low_i = slice_get_within rules i apart.first apart.overlap.is_first in
      let low_j = slice_get_within rules j apart.second apart.overlap.is_second in
      let at_i : slice_get numbers i ≡ Some (slice_index numbers i) = slice_get-get_or numbers i 0 (omega (arith, low_i, one_each)) in
      let at_j : slice_get numbers j ≡ Some (slice_index numbers j) = slice_get-get_or numbers j 0 (omega (arith, low_j, one_each)) in
      let P : Found → Type 0 = λ it. IsApart (record { number = number; numbers = numbers; rules = rules }) it in
      subst P (sym at.is) (record {
        first = apart.first;
        second = apart.second;
        overlap = record {
          is_first = record { index = i; at = at_i; is_rule = apart.overlap.is_first };
          is_second = record { index = j; at = at_j; is_rule = apart.overlap.is_second };
          overlaps = apart.overlap.overlaps;
          proper = λ same. apart.overlap.proper
              (one_index numbers i j (slice_index numbers i) ascends at_i (at_j ∙ ap (λ (n : ℕ). Some n) (sym same)));
        };
        u = apart.u;
        v = apart.v;
        parts = apart.parts;
      })

  -- an overlap of lines is one of indices
  is_apart_at : (number : ℕ) (one : Found) (apart : IsApart (record { number = number; numbers = numbers; rules = rules }) one)
      → IsApartAt rules apart.overlap.is_first.index
      (record { rule = apart.overlap.is_second.index; place = one.place })
  is_apart_at number one apart =
      let i = apart.overlap.is_first.index in
      let j = apart.overlap.is_second.index in
      let at_i = get_or_from_slice_get numbers i one.first 0 apart.overlap.is_first.at in
      let at_j = get_or_from_slice_get numbers j one.second 0 apart.overlap.is_second.at in
      record {
        first = apart.first;
        second = apart.second;
        overlap = record {
          is_first = apart.overlap.is_first.is_rule;
          is_second = apart.overlap.is_second.is_rule;
          overlaps = apart.overlap.overlaps;
          proper = λ same. apart.overlap.proper (sym at_i ∙ ap (λ n. get_or numbers n 0) same ∙ at_j);
        };
        u = apart.u;
        v = apart.v;
        parts = apart.parts;
      }

  is_found : (number : ℕ) (one : Found) (apart : IsApart (record { number = number; numbers = numbers; rules = rules }) one)
      → found_at numbers apart.overlap.is_first.index (record { rule = apart.overlap.is_second.index; place = one.place }) ≡ one
  is_found number one apart =
      let at_i = get_or_from_slice_get numbers apart.overlap.is_first.index one.first 0 apart.overlap.is_first.at in
      let at_j = get_or_from_slice_get numbers apart.overlap.is_second.index one.second 0 apart.overlap.is_second.at in
      ap (λ (n : ℕ). record { first = n; second = get_or numbers apart.overlap.is_second.index 0; place = one.place }) at_i
      ∙ ap (λ (n : ℕ). record { first = one.first; second = n; place = one.place }) at_j

  -- past the last row all is found
  pub all_rows : (number : ℕ) (found : List Found) → AreInRows rules numbers (length rules) found
      → AreAllApart (record { number = number; numbers = numbers; rules = rules }) found
  all_rows number found so_far = record {
    each = λ k d low. is_apart number (length rules) (get_or found k d) (so_far.each k d low);
    all = λ one apart.
        let i = apart.overlap.is_first.index in
        let low = slice_get_within rules i apart.first apart.overlap.is_first.is_rule in
        let P : Found → Type 0 = λ it. Contains found it in
        subst P (is_found number one apart)
        (so_far.all i (record { rule = apart.overlap.is_second.index; place = one.place }) low (is_apart_at number one apart));
    ascending = so_far.ascending;
  }
