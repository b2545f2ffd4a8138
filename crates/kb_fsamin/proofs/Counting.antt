-- A counting sort, and the items of a part as they stand.
use Rattle.std.proofs.Common.{◌≡◌, ◌≢◌, ◌⊎◌, ℕ, cond, ◌+◌, ◌-◌, ◌<◌, ◌≤◌, nat_eq, List, [], ◌∷◌, ◌++◌, length, get_or, map, set, take, drop, sum, refl, sym, ap, ◌∙◌, inl, inr, arith, length-set, get_or-set_same, get_or-set_other, length-take, length-drop, get_or-take, get_or-drop}
use Rattle.std.specs.List.{slice_range}
use Rattle.std.proofs.lemmas.Bool.{cases_eq, cases_lt, eq-eqb, ne_eqb}
use Rattle.std.proofs.lemmas.List.{length-map, take_all, take-take, length_push, get_or_push, get_or_append_left, get_or_default}
use Rattle.std.proofs.lemmas.List.Sums.{sum_by_more, sum_by-take-le, sum_by-set, count_by_more_yes, count_by_more_no}
use Rattle.kb_fsamin.specs.declared.partition.Part.{Part}
use Rattle.kb_fsamin.specs.Partitions.{Range, plain, part_of, range_of, occurrences, AreCounts, AreFilled, AreMembers, AreRanges, IsMember, IsPlaced, Stand}
use Rattle.kb_fsamin.proofs.Marking.{range_here, range_there}
use Rattle.kb_fsamin.proofs.Ranges.{plain_at}

-- one item more
occurrences_here : (of : List ℕ) (done part : ℕ) → done < length of → get_or of done 0 ≡ part → occurrences part (take (done + 1) of) ≡ occurrences part (take done of) + 1
occurrences_here of done part h is = count_by_more_yes (λ other. nat_eq other part) of done 0 h (eq-eqb (get_or of done 0) part is)

occurrences_there : (of : List ℕ) (done part : ℕ) → done < length of → get_or of done 0 ≢ part → occurrences part (take (done + 1) of) ≡ occurrences part (take done of)
occurrences_there of done part h apart = count_by_more_no (λ other. nat_eq other part) of done 0 h (ne_eqb (get_or of done 0) part apart)

pub counts_more : (of : List ℕ) (done count : ℕ) (counts : List ℕ) (value : ℕ) → done < length of → get_or of done 0 < count
    → value ≡ get_or counts (get_or of done 0) 0 → AreCounts of done count counts → AreCounts of (done + 1) count (set counts (get_or of done 0) (value + 1))
counts_more of done count counts value h known is all =
    let part = get_or of done 0 in
    let within : get_or of done 0 < length counts = omega (arith, all.one_each) in
    record {
      one_each = length-set counts part (value + 1) ∙ all.one_each;
      each = λ other low. elim (cases_eq other part) [
        | inl same ↦
            let now = ap (λ k. get_or (set counts part (value + 1)) k 0) same ∙ get_or-set_same counts part (value + 1) 0 within in
            let was = ap (λ k. get_or counts k 0) same in
            omega (arith, occurrences_here of done other h (sym same), all.each other low)
        | inr apart ↦
            get_or-set_other counts part other (value + 1) 0 apart ∙ all.each other low ∙ sym (occurrences_there of done other h (λ same. apart (sym same)))
      ];
      total = omega (arith, sum_by-set (λ x. x) counts part (value + 1) 0 within, all.total);
    }

-- what is summed of the first of some numbers
sums_rise : (xs : List ℕ) (few many : ℕ) → few ≤ many → sum (take few xs) ≤ sum (take many xs)
sums_rise xs few many le = omega (arith, ap sum (take-take few many xs le), sum_by-take-le (λ x. x) (take many xs) few)

module _ (of counts : List ℕ) (count : ℕ) (counted : AreCounts of (length of) count counts) (done : ℕ) (h : done < length of)
    (elements places : List ℕ) (parts : List Range) (filled : AreFilled of counts done elements places parts)
    (known : get_or of done 0 < count) (range : Range) (range_is : range ≡ range_of parts (get_or of done 0)) where
  within : get_or of done 0 < length counts
  within = omega (arith, counted.one_each)

  -- there is room for one more
  room : range.past < sum (take (get_or of done 0 + 1) counts)
  room =
      let more = sum_by_more (λ x. x) counts (get_or of done 0) 0 within in
      let whole = counted.each (get_or of done 0) known in
      let all : take (length of) of ≡ of = take_all (length of) of (omega arith) in
      let so_far : occurrences (get_or of done 0) (take (done + 1) of) ≤ occurrences (get_or of done 0) (take (length of) of) =
      omega (
        arith,
        ap (occurrences (get_or of done 0)) (take-take (done + 1) (length of) of (omega arith)),
        sum_by-take-le (λ other. cond (nat_eq other (get_or of done 0)) 1 0) (take (length of) of) (done + 1),
      ) in
      omega (
        arith,
        occurrences_here of done (get_or of done 0) h refl,
        ap (λ (r : Range). r.past) range_is,
        filled.past (get_or of done 0) within,
      )

  pub place_within : range.past < length of
  place_within =
      let most = sum_by-take-le (λ x. x) counts (get_or of done 0 + 1) in
      omega (arith, room, counted.total)

  first_is : range.first ≡ sum (take (get_or of done 0) counts)
  first_is = ap (λ (r : Range). r.first) range_is ∙ filled.first (get_or of done 0) within

  past_is : range.past ≡ sum (take (get_or of done 0) counts) + occurrences (get_or of done 0) (take done of)
  past_is = ap (λ (r : Range). r.past) range_is ∙ filled.past (get_or of done 0) within

  -- no other part has room there
  free : (part : ℕ) → part < length parts → (range_of parts part).first ≤ range.past → range.past < (range_of parts part).past → ⊥
  free part low above below = elim (cases_eq part (get_or of done 0)) [
    | inl same ↦ omega (arith, ap (λ p. (range_of parts p).past) same, ap (λ (r : Range). r.past) range_is)
    | inr apart ↦
        let low' : part < length counts = omega (arith, filled.one_each) in
        let first = filled.first part low' in
        let past = filled.past part low' in
        elim (cases_lt part (get_or of done 0)) [
          | inl before ↦
              let more = sum_by_more (λ x. x) counts part 0 low' in
              let whole = counted.each part (omega (arith, counted.one_each)) in
              let so_far : occurrences part (take done of) ≤ occurrences part (take (length of) of) =
              omega (
                arith,
                ap (occurrences part) (take-take done (length of) of (omega arith)),
                sum_by-take-le (λ other. cond (nat_eq other part) 1 0) (take (length of) of) done,
              ) in
              omega (arith, sums_rise counts (part + 1) (get_or of done 0) (omega arith), past_is)
          | inr after ↦ omega (arith, sums_rise counts (get_or of done 0 + 1) part (omega arith), room)
        ]
  ]

  here : (part : ℕ) → part ≡ get_or of done 0
      → range_of (set parts (get_or of done 0) (record { first = range.first; middle = range.middle; past = range.past + 1 })) part
      ≡ record { first = range.first; middle = range.middle; past = range.past + 1 }
  here part is = range_here parts (get_or of done 0) _ part (omega (arith, filled.one_each, within)) is

  there : (part : ℕ) → part ≢ get_or of done 0
      → range_of (set parts (get_or of done 0) (record { first = range.first; middle = range.middle; past = range.past + 1 })) part ≡ range_of parts part
  there part apart = range_there parts (get_or of done 0) _ part apart

  -- a range is as it was, or has its next place
  grows : (part : ℕ) → part < length parts
      → let new = range_of (set parts (get_or of done 0) (record { first = range.first; middle = range.middle; past = range.past + 1 })) part in
      (new.first ≡ (range_of parts part).first) × (new.middle ≡ (range_of parts part).middle) × ((range_of parts part).past ≤ new.past)
      × ((place : ℕ) → place < new.past → place < (range_of parts part).past ⊎ ((part ≡ get_or of done 0) × (place ≡ range.past)))
  grows part low = elim (cases_eq part (get_or of done 0)) [
    | inl is ↦
        let new = here part is in
        let old = ap (range_of parts) is ∙ sym range_is in
        let past = ap (λ (r : Range). r.past) new in
        let was = ap (λ (r : Range). r.past) old in (
          ap (λ (r : Range). r.first) new ∙ sym (ap (λ (r : Range). r.first) old),
          ap (λ (r : Range). r.middle) new ∙ sym (ap (λ (r : Range). r.middle) old),
          omega arith,
          λ place below. elim (cases_eq place range.past) [ inl last ↦ inr (is, last) | inr before ↦ inl (omega arith) ],
        )
    | inr apart ↦
        let same = there part apart in
        let past = ap (λ (r : Range). r.past) same in
        (ap (λ (r : Range). r.first) same, ap (λ (r : Range). r.middle) same, omega arith, λ place below. inl (omega arith))
  ]

  stands : (part place : ℕ) → part < length parts
      → (range_of parts part).first ≤ place → place < (range_of parts part).past ⊎ ((part ≡ get_or of done 0) × (place ≡ range.past))
      → (get_or (set elements range.past done) place 0 < done + 1) × IsMember of (set elements range.past done) (places ++ range.past ∷ []) part place
  stands part place low above cases = elim cases [
    | inl before ↦
        let apart : place ≢ range.past = λ same. free part low (omega arith) (omega arith) in
        let same : get_or (set elements range.past done) place 0 ≡ get_or elements place 0 = get_or-set_other elements range.past place done 0 apart in
        let inside = filled.stand.within part place low above before in
        let was = filled.stand.member part place low above before in (
          omega arith,
          record {
            of_part = ap (part_of of) same ∙ was.of_part;
            place_is = ap (λ x. get_or (places ++ range.past ∷ []) x 0) same
                ∙ get_or_append_left places (range.past ∷ []) 0 (get_or elements place 0) (omega (arith, filled.place_each)) ∙ was.place_is;
          },
        )
    | inr last ↦
        let now : get_or (set elements range.past done) place 0 ≡ done =
        ap (λ p. get_or (set elements range.past done) p 0) last.1 ∙ get_or-set_same elements range.past done 0 (omega (arith, place_within, filled.element_each)) in (
          omega arith,
          record {
            of_part = ap (part_of of) now ∙ sym last.0;
            place_is = ap (λ x. get_or (places ++ range.past ∷ []) x 0) now ∙ get_or_push places range.past 0 done filled.place_each ∙ sym last.1;
          },
        )
  ]

  size : length (set parts (get_or of done 0) (record { first = range.first; middle = range.middle; past = range.past + 1 })) ≡ length parts
  size = length-set parts (get_or of done 0) (record { first = range.first; middle = range.middle; past = range.past + 1 })

  placed : (item : ℕ) → item < done + 1 → IsPlaced of (set elements range.past done) (places ++ range.past ∷ [])
      (set parts (get_or of done 0) (record { first = range.first; middle = range.middle; past = range.past + 1 })) item
  placed item low = elim (cases_eq item done) [
    | inl last ↦
        let part : part_of of item ≡ get_or of done 0 = ap (part_of of) last in
        let new = here (part_of of item) part in
        let first = ap (λ (r : Range). r.first) new in
        let past = ap (λ (r : Range). r.past) new in
        let place : get_or (places ++ range.past ∷ []) item 0 ≡ range.past = get_or_push places range.past 0 item (filled.place_each ∙ sym last) in
        record {
          known = omega (arith, size, filled.one_each, within);
          above = omega (arith, first_is, past_is);
          below = omega arith;
          element = ap (λ p. get_or (set elements range.past done) p 0) place
              ∙ get_or-set_same elements range.past done 0 (omega (arith, place_within, filled.element_each)) ∙ sym last;
        }
    | inr before ↦
        let was = filled.stand.placed item (omega arith) in
        let room_there = grows (part_of of item) was.known in
        let first = room_there.0 in
        let past = room_there.2 in
        let place : get_or (places ++ range.past ∷ []) item 0 ≡ get_or places item 0 =
        get_or_append_left places (range.past ∷ []) 0 item (omega (arith, filled.place_each)) in
        let apart : get_or places item 0 ≢ range.past = λ same. free (part_of of item) was.known (omega (arith, was.above)) (omega (arith, was.below)) in
        record {
          known = omega (arith, size, was.known);
          above = omega (arith, was.above);
          below = omega (arith, was.below);
          element = ap (λ p. get_or (set elements range.past done) p 0) place ∙ get_or-set_other elements range.past (get_or places item 0) done 0 apart ∙ was.element;
        }
  ]

  pub filled_more : AreFilled of counts (done + 1) (set elements range.past done) (places ++ range.past ∷ [])
      (set parts (get_or of done 0) (record { first = range.first; middle = range.middle; past = range.past + 1 }))
  filled_more = record {
    one_each = size ∙ filled.one_each;
    first = λ part low. (grows part (omega (arith, filled.one_each))).0 ∙ filled.first part low;
    past = λ part low. elim (cases_eq part (get_or of done 0)) [
      | inl is ↦
          let past = ap (λ (r : Range). r.past) (here part is) in
          let sums = ap (λ p. sum (take p counts)) is in
          omega (arith, past_is, occurrences_here of done part h (sym is), ap (λ p. occurrences p (take done of)) is)
      | inr apart ↦
          ap (λ (r : Range). r.past) (there part apart) ∙ filled.past part low
          ∙ ap (λ n. sum (take part counts) + n) (sym (occurrences_there of done part h (λ same. apart (sym same))))
    ];
    none_marked = λ part low. (grows part (omega (arith, filled.one_each))).1 ∙ filled.none_marked part low;
    element_each = length-set elements range.past done ∙ filled.element_each;
    place_each = length_push places range.past ∙ ap (λ n. n + 1) filled.place_each;
    stand = record {
      placed = placed;
      within = λ part place low above below.
          let room_there = grows part (omega (arith, size)) in
          let first = room_there.0 in
          (stands part place (omega (arith, size)) (omega arith) (room_there.3 place below)).0;
      member = λ part place low above below.
          let room_there = grows part (omega (arith, size)) in
          let first = room_there.0 in
          (stands part place (omega (arith, size)) (omega arith) (room_there.3 place below)).1;
      fits = λ part low. elim (cases_eq part (get_or of done 0)) [
        | inl is ↦ omega (arith, ap (λ (r : Range). r.past) (here part is), place_within, length-set elements range.past done, filled.element_each)
        | inr apart ↦
            omega (arith, ap (λ (r : Range). r.past) (there part apart), length-set elements range.past done, filled.stand.fits part (omega (arith, size)))
      ];
      order = λ part low.
          let low' : part < length parts = omega (arith, size) in
          let room_there = grows part low' in
          let first = room_there.0 in
          let middle = room_there.1 in
          let past = room_there.2 in
          let old = filled.stand.order part low' in
          (omega arith, omega arith);
    };
  }

-- the ranges before any item
pub filled_none : (of counts elements : List ℕ) (parts : List Part) → sum counts ≡ length of → length elements ≡ length of
    → AreRanges counts (length counts) parts → AreFilled of counts 0 elements [] (map plain parts)
filled_none of counts elements parts total size ranges = record {
  one_each = each;
  first = λ part h. ap (λ (r : Range). r.first) (empty part h);
  past = λ part h. let is = ap (λ (r : Range). r.past) (empty part h) in omega arith;
  none_marked = λ part h. ap (λ (r : Range). r.middle) (empty part h);
  element_each = size;
  place_each = refl;
  stand = record {
    placed = λ item h. absurd (omega arith);
    within = λ part place h above below. absurd (none part place h above below);
    member = λ part place h above below. absurd (none part place h above below);
    fits = λ part h.
        omega (arith, ap (λ (r : Range). r.past) (empty part (omega (arith, each))), sum_by-take-le (λ x. x) counts part);
    order = λ part h.
        let is = empty part (omega (arith, each)) in
        let first = ap (λ (r : Range). r.first) is in
        let middle = ap (λ (r : Range). r.middle) is in
        let past = ap (λ (r : Range). r.past) is in
        (omega arith, omega arith);
  };
}
  where
    each : length (map plain parts) ≡ length counts
    each = length-map parts plain ∙ ranges.one_each

    empty : (part : ℕ) → part < length counts
        → range_of (map plain parts) part ≡ record { first = sum (take part counts); middle = sum (take part counts); past = sum (take part counts) }
    empty part h = plain_at parts part ∙ ap plain (ranges.empty part h)

    none : (part place : ℕ) → part < length (map plain parts) → (range_of (map plain parts) part).first ≤ place
        → place < (range_of (map plain parts) part).past → ⊥
    none part place h above below =
        let is = empty part (omega (arith, each)) in
        omega (arith, ap (λ (r : Range). r.first) is, ap (λ (r : Range). r.past) is)

-- ---- the items of a part

pub members_are : (of elements places : List ℕ) (parts : List Range) (part : ℕ) → Stand of (length of) elements places parts → part < length parts
    → AreMembers of part (slice_range elements (range_of parts part).first (range_of parts part).past)
members_are of elements places parts part stand known = record {
  sound = λ k d h.
      let read = at k d h in
      let size = length-slice in
      let within = stand.within part ((range_of parts part).first + k) known (omega arith) (omega arith) in
      let member = stand.member part ((range_of parts part).first + k) known (omega arith) (omega arith) in
      (omega arith, ap (part_of of) read ∙ member.of_part);
  complete = λ item h is.
      let was = stand.placed item h in
      let low = ap (λ p. (range_of parts p).first) is in
      let high = ap (λ p. (range_of parts p).past) is in
      let k = get_or places item 0 - (range_of parts part).first in
      let inside : k < length (slice_range elements (range_of parts part).first (range_of parts part).past) = omega (arith, length-slice, was.above, was.below) in
      let there : (range_of parts part).first + k ≡ get_or places item 0 = omega (arith, was.above) in
      (k, inside, at k item inside ∙ ap (λ p. get_or elements p 0) there ∙ was.element);
}
  where
    length-slice : length (slice_range elements (range_of parts part).first (range_of parts part).past) ≡ (range_of parts part).past - (range_of parts part).first
    length-slice =
        let most = stand.fits part known in
        omega (
          arith,
          length-take ((range_of parts part).past - (range_of parts part).first) (drop (range_of parts part).first elements),
          length-drop (range_of parts part).first elements,
        )

    at : (k d : ℕ) → k < length (slice_range elements (range_of parts part).first (range_of parts part).past)
        → get_or (slice_range elements (range_of parts part).first (range_of parts part).past) k d ≡ get_or elements ((range_of parts part).first + k) 0
    at k d h =
        let most = stand.fits part known in
        get_or-take ((range_of parts part).past - (range_of parts part).first) (drop (range_of parts part).first elements) k d (omega (arith, length-slice))
        ∙ get_or-drop (range_of parts part).first elements k d
        ∙ get_or_default elements ((range_of parts part).first + k) d 0 (omega (arith, length-slice))
