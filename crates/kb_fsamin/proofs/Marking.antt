-- An item is marked: it changes places with the first item of its part that isn't.
use Rattle.std.proofs.Common.{◌≡◌, ◌≢◌, ◌⊎◌, ◌↔◌, ℕ, ◌+◌, ◌<◌, ◌≤◌, List, length, get_or, map, set, refl, sym, ap, ◌∙◌, subst, inl, inr, arith, length-set, get_or-set_same, get_or-set_other}
use Rattle.std.proofs.lemmas.Bool.{cases_eq}
use Rattle.std.proofs.lemmas.List.{map-set}
use Rattle.kb_fsamin.specs.declared.partition.Part.{Part}
use Rattle.kb_fsamin.specs.Partitions.{Range, kept_of, part_at, part_of, range_from, range_of, IsMarked, Stand, IsPlaced, IsMember}
use Rattle.kb_fsamin.proofs.Ranges.{kept_at, kept_range, middle_kept}

-- a part's range after one is written
pub range_here : (parts : List Range) (part : ℕ) (range : Range) (other : ℕ) → part < length parts → other ≡ part → range_of (set parts part range) other ≡ range
range_here parts part range other within is =
    ap (range_of (set parts part range)) is ∙ get_or-set_same parts part range (record { first = 0; middle = 0; past = 0 }) within

pub range_there : (parts : List Range) (part : ℕ) (range : Range) (other : ℕ) → other ≢ part → range_of (set parts part range) other ≡ range_of parts other
range_there parts part range other apart = get_or-set_other parts part other range (record { first = 0; middle = 0; past = 0 }) apart

module _ (of elements places : List ℕ) (parts : List Range) (stand : Stand of (length of) elements places parts)
    (element_each : length elements ≡ length of) (place_each : length places ≡ length of)
    (item : ℕ) (known : item < length of) (unmarked : (range_of parts (part_of of item)).middle ≤ get_or places item 0)
    (range : Range) (first_is : range.first ≡ (range_of parts (part_of of item)).first)
    (middle_is : range.middle ≡ (range_of parts (part_of of item)).middle + 1) (past_is : range.past ≡ (range_of parts (part_of of item)).past)
    (other : ℕ) (other_is : other ≡ get_or elements (range_of parts (part_of of item)).middle 0) where
  here : IsPlaced of elements places parts item
  here = stand.placed item known

  middle_at : ((range_of parts (part_of of item)).first ≤ (range_of parts (part_of of item)).middle)
      × ((range_of parts (part_of of item)).middle < (range_of parts (part_of of item)).past)
  middle_at = ((stand.order (part_of of item) here.known).0, omega (arith, here.below))

  low : other < length of
  low = omega (arith, stand.within (part_of of item) (range_of parts (part_of of item)).middle here.known middle_at.0 middle_at.1)

  same_part : part_of of other ≡ part_of of item
  same_part = ap (part_of of) other_is ∙ (stand.member (part_of of item) (range_of parts (part_of of item)).middle here.known middle_at.0 middle_at.1).of_part

  other_place : get_or places other 0 ≡ (range_of parts (part_of of item)).middle
  other_place = ap (λ x. get_or places x 0) other_is ∙ (stand.member (part_of of item) (range_of parts (part_of of item)).middle here.known middle_at.0 middle_at.1).place_is

  pub middle_within : (range_of parts (part_of of item)).middle < length of
  middle_within = omega (arith, middle_at.1, stand.fits (part_of of item) here.known)

  pub place_within : get_or places item 0 < length of
  place_within = omega (arith, here.below, stand.fits (part_of of item) here.known)

  pub other_within : other < length of
  other_within = low

  -- ---- what stands where afterwards

  place_item : (x : ℕ) → x ≡ item
      → get_or (set (set places other (get_or places item 0)) item (range_of parts (part_of of item)).middle) x 0 ≡ (range_of parts (part_of of item)).middle
  place_item x is =
      ap (λ y. get_or (set (set places other (get_or places item 0)) item (range_of parts (part_of of item)).middle) y 0) is
      ∙ get_or-set_same (set places other (get_or places item 0)) item (range_of parts (part_of of item)).middle 0
      (omega (arith, length-set places other (get_or places item 0)))

  place_other : (x : ℕ) → x ≡ other → x ≢ item
      → get_or (set (set places other (get_or places item 0)) item (range_of parts (part_of of item)).middle) x 0 ≡ get_or places item 0
  place_other x is apart =
      get_or-set_other (set places other (get_or places item 0)) item x (range_of parts (part_of of item)).middle 0 apart
      ∙ ap (λ y. get_or (set places other (get_or places item 0)) y 0) is
      ∙ get_or-set_same places other (get_or places item 0) 0 (omega (arith, low))

  place_else : (x : ℕ) → x ≢ other → x ≢ item
      → get_or (set (set places other (get_or places item 0)) item (range_of parts (part_of of item)).middle) x 0 ≡ get_or places x 0
  place_else x distinct apart =
      get_or-set_other (set places other (get_or places item 0)) item x (range_of parts (part_of of item)).middle 0 apart
      ∙ get_or-set_other places other x (get_or places item 0) 0 distinct

  element_middle : (place : ℕ) → place ≡ (range_of parts (part_of of item)).middle
      → get_or (set (set elements (get_or places item 0) other) (range_of parts (part_of of item)).middle item) place 0 ≡ item
  element_middle place is =
      ap (λ y. get_or (set (set elements (get_or places item 0) other) (range_of parts (part_of of item)).middle item) y 0) is
      ∙ get_or-set_same (set elements (get_or places item 0) other) (range_of parts (part_of of item)).middle item 0
      (omega (arith, length-set elements (get_or places item 0) other, middle_within))

  element_place : (place : ℕ) → place ≡ get_or places item 0 → place ≢ (range_of parts (part_of of item)).middle
      → get_or (set (set elements (get_or places item 0) other) (range_of parts (part_of of item)).middle item) place 0 ≡ other
  element_place place is apart =
      get_or-set_other (set elements (get_or places item 0) other) (range_of parts (part_of of item)).middle place item 0 apart
      ∙ ap (λ y. get_or (set elements (get_or places item 0) other) y 0) is
      ∙ get_or-set_same elements (get_or places item 0) other 0 (omega (arith, place_within))

  element_else : (place : ℕ) → place ≢ get_or places item 0 → place ≢ (range_of parts (part_of of item)).middle
      → get_or (set (set elements (get_or places item 0) other) (range_of parts (part_of of item)).middle item) place 0 ≡ get_or elements place 0
  element_else place distinct apart =
      get_or-set_other (set elements (get_or places item 0) other) (range_of parts (part_of of item)).middle place item 0 apart
      ∙ get_or-set_other elements (get_or places item 0) place other 0 distinct

  ranges : (part : ℕ) → ((range_of (set parts (part_of of item) range) part).first ≡ (range_of parts part).first)
      × ((range_of (set parts (part_of of item) range) part).past ≡ (range_of parts part).past)
  ranges part = elim (cases_eq part (part_of of item)) [
    | inl is ↦
        let new = range_here parts (part_of of item) range part here.known is in (
          ap (λ (r : Range). r.first) new ∙ first_is ∙ ap (λ p. (range_of parts p).first) (sym is),
          ap (λ (r : Range). r.past) new ∙ past_is ∙ ap (λ p. (range_of parts p).past) (sym is),
        )
    | inr apart ↦
        let old = range_there parts (part_of of item) range part apart in
        (ap (λ (r : Range). r.first) old, ap (λ (r : Range). r.past) old)
  ]

  middle_here : (part : ℕ) → part ≡ part_of of item → (range_of (set parts (part_of of item) range) part).middle ≡ (range_of parts (part_of of item)).middle + 1
  middle_here part is = ap (λ (r : Range). r.middle) (range_here parts (part_of of item) range part here.known is) ∙ middle_is

  middle_there : (part : ℕ) → part ≢ part_of of item → (range_of (set parts (part_of of item) range) part).middle ≡ (range_of parts part).middle
  middle_there part apart = ap (λ (r : Range). r.middle) (range_there parts (part_of of item) range part apart)

  -- an item that changes no place isn't at one that changes
  elsewhere : (x : ℕ) → x < length of → x ≢ item → get_or places x 0 ≢ get_or places item 0
  elsewhere x h apart same = apart (sym (stand.placed x h).element ∙ ap (λ p. get_or elements p 0) same ∙ here.element)

  not_middle : (x : ℕ) → x < length of → x ≢ other → get_or places x 0 ≢ (range_of parts (part_of of item)).middle
  not_middle x h apart same = apart (sym (stand.placed x h).element ∙ ap (λ p. get_or elements p 0) same ∙ sym other_is)

  placed : (x : ℕ) → x < length of
      → IsPlaced of (set (set elements (get_or places item 0) other) (range_of parts (part_of of item)).middle item)
      (set (set places other (get_or places item 0)) item (range_of parts (part_of of item)).middle) (set parts (part_of of item) range) x
  placed x h =
      let was = stand.placed x h in
      let size = length-set parts (part_of of item) range in
      let bounds = ranges (part_of of x) in
      elim (cases_eq x item) [
        | inl is ↦
            let part : part_of of x ≡ part_of of item = ap (part_of of) is in
            let first = ap (λ p. (range_of parts p).first) part in
            let past = ap (λ p. (range_of parts p).past) part in
            let at = place_item x is in
            record {
              known = omega (arith, was.known);
              above = omega (arith, middle_at.0);
              below = omega (arith, middle_at.1);
              element = element_middle _ at ∙ sym is;
            }
        | inr apart ↦ elim (cases_eq x other) [
          | inl is ↦
              let part : part_of of x ≡ part_of of item = ap (part_of of) is ∙ same_part in
              let first = ap (λ p. (range_of parts p).first) part in
              let past = ap (λ p. (range_of parts p).past) part in
              let at = place_other x is apart in
              let moved : get_or places item 0 ≢ (range_of parts (part_of of item)).middle = λ same. elsewhere x h apart (ap (λ y. get_or places y 0) is ∙ other_place ∙ sym same) in
              record {
                known = omega (arith, was.known);
                above = omega (arith, here.above);
                below = omega (arith, here.below);
                element = element_place _ at (λ same. moved (sym at ∙ same)) ∙ sym is;
              }
          | inr distinct ↦
              let at = place_else x distinct apart in
              record {
                known = omega (arith, was.known);
                above = omega (arith, was.above);
                below = omega (arith, was.below);
                element = element_else _ (λ same. elsewhere x h apart (sym at ∙ same)) (λ same. not_middle x h distinct (sym at ∙ same))
                    ∙ ap (λ p. get_or elements p 0) at ∙ was.element;
              }
        ]
      ]

  -- what stands at a place of a range afterwards
  stands : (part place : ℕ) → part < length parts → (range_of parts part).first ≤ place → place < (range_of parts part).past
      → (get_or (set (set elements (get_or places item 0) other) (range_of parts (part_of of item)).middle item) place 0 < length of)
      × IsMember of (set (set elements (get_or places item 0) other) (range_of parts (part_of of item)).middle item)
      (set (set places other (get_or places item 0)) item (range_of parts (part_of of item)).middle) part place
  stands part place h above below =
      let was = stand.member part place h above below in
      let inside = stand.within part place h above below in
      elim (cases_eq place (range_of parts (part_of of item)).middle) [
        | inl is ↦
            let now = element_middle place is in
            let same : get_or elements place 0 ≡ other = ap (λ p. get_or elements p 0) is ∙ sym other_is in (
              omega arith,
              record {
                of_part = ap (part_of of) now ∙ sym same_part ∙ ap (part_of of) (sym same) ∙ was.of_part;
                place_is = place_item _ now ∙ sym is;
              },
            )
        | inr apart ↦ elim (cases_eq place (get_or places item 0)) [
          | inl is ↦
              let now = element_place place is apart in
              let same : get_or elements place 0 ≡ item = ap (λ p. get_or elements p 0) is ∙ here.element in
              let differ : other ≢ item = λ one. apart (is ∙ ap (λ x. get_or places x 0) (sym one) ∙ other_place) in (
                omega (arith, low),
                record {
                  of_part = ap (part_of of) now ∙ same_part ∙ ap (part_of of) (sym same) ∙ was.of_part;
                  place_is = place_other _ now (λ one. differ (sym now ∙ one)) ∙ sym is;
                },
              )
          | inr distinct ↦
              let now = element_else place distinct apart in
              let y = get_or elements place 0 in
              let not_item : y ≢ item = λ one. distinct (sym was.place_is ∙ ap (λ x. get_or places x 0) one) in
              let not_other : y ≢ other = λ one. apart (sym was.place_is ∙ ap (λ x. get_or places x 0) one ∙ other_place) in (
                omega arith,
                record {
                  of_part = ap (part_of of) now ∙ was.of_part;
                  place_is = place_else _ (λ one. not_other (sym now ∙ one)) (λ one. not_item (sym now ∙ one))
                      ∙ ap (λ x. get_or places x 0) now ∙ was.place_is;
                },
              )
        ]
      ]

  pub stand_more : Stand of (length of) (set (set elements (get_or places item 0) other) (range_of parts (part_of of item)).middle item)
      (set (set places other (get_or places item 0)) item (range_of parts (part_of of item)).middle) (set parts (part_of of item) range)
  stand_more =
      let size = length-set parts (part_of of item) range in
      record {
        placed = placed;
        within = λ part place h above below.
            let same = ranges part in (stands part place (omega arith) (omega arith) (omega arith)).0;
        member = λ part place h above below.
            let same = ranges part in (stands part place (omega arith) (omega arith) (omega arith)).1;
        fits = λ part h.
            let same = ranges part in
            omega (
              arith,
              stand.fits part (omega arith),
              length-set elements (get_or places item 0) other,
              length-set (set elements (get_or places item 0) other) (range_of parts (part_of of item)).middle item,
            );
        order = λ part h.
            let same = ranges part in
            let old = stand.order part (omega arith) in
            elim (cases_eq part (part_of of item)) [
              | inl is ↦
                  let first = ap (λ p. (range_of parts p).first) is in
                  let past = ap (λ p. (range_of parts p).past) is in
                  let middle = middle_here part is in
                  (omega (arith, middle_at.0), omega (arith, middle_at.1))
              | inr apart ↦ let middle = middle_there part apart in (omega arith, omega arith)
            ];
      }

  pub marks_more : (x : ℕ) → x < length of
      → IsMarked of (set (set places other (get_or places item 0)) item (range_of parts (part_of of item)).middle) (set parts (part_of of item) range) x
      ↔ (IsMarked of places parts x ⊎ (x ≡ item))
  marks_more x h = elim (cases_eq x item) [
    | inl is ↦
        let at = place_item x is in
        let middle = middle_here (part_of of x) (ap (part_of of) is) in
        (λ marked. inr is, λ cases. omega arith)
    | inr apart ↦ elim (cases_eq x other) [
      | inl is ↦
          let at = place_other x is apart in
          let part : part_of of x ≡ part_of of item = ap (part_of of) is ∙ same_part in
          let middle = middle_here (part_of of x) part in
          let before = ap (λ p. (range_of parts p).middle) part in
          let was = ap (λ y. get_or places y 0) is ∙ other_place in
          let moved : get_or places item 0 ≢ (range_of parts (part_of of item)).middle = λ same. elsewhere x h apart (was ∙ sym same) in
          (λ marked. absurd (omega arith), λ cases. elim cases [ inl marked ↦ absurd (omega arith) | inr one ↦ absurd (apart one) ])
      | inr distinct ↦
          let at = place_else x distinct apart in
          let unlike = not_middle x h distinct in
          elim (cases_eq (part_of of x) (part_of of item)) [
            | inl part ↦
                let middle = middle_here (part_of of x) part in
                let before = ap (λ p. (range_of parts p).middle) part in
                (λ marked. inl (omega arith), λ cases. elim cases [ inl marked ↦ omega arith | inr one ↦ absurd (apart one) ])
            | inr differ ↦
                let middle = middle_there (part_of of x) differ in
                (λ marked. inl (omega arith), λ cases. elim cases [ inl marked ↦ omega arith | inr one ↦ absurd (apart one) ])
          ]
    ]
  ]

-- the same, by what is read
module _ (of elements places : List ℕ) (parts : List Range) (stand : Stand of (length of) elements places parts)
    (element_each : length elements ≡ length of) (place_each : length places ≡ length of) (item : ℕ) (known : item < length of)
    (part place other : ℕ) (range : Range) (part_is : part ≡ part_of of item) (place_is : place ≡ get_or places item 0)
    (range_is : range ≡ range_of parts part) (unmarked : range.middle ≤ place) (other_is : other ≡ get_or elements range.middle 0) where
  at : range ≡ range_of parts (part_of of item)
  at = range_is ∙ ap (range_of parts) part_is

  middle_is : (range_of parts (part_of of item)).middle ≡ range.middle
  middle_is = ap (λ (r : Range). r.middle) (sym at)

  past_place : (range_of parts (part_of of item)).middle ≤ get_or places item 0
  past_place = omega (arith, middle_is)

  read_other : other ≡ get_or elements (range_of parts (part_of of item)).middle 0
  read_other = other_is ∙ ap (λ k. get_or elements k 0) (sym middle_is)

  pub stand_marked : Stand of (length of) (set (set elements place other) range.middle item) (set (set places other place) item range.middle)
      (set parts part (record { first = range.first; middle = range.middle + 1; past = range.past }))
  stand_marked =
      let new : Range = record { first = range.first; middle = range.middle + 1; past = range.past } in
      let P : ℕ → Type 0 = λ k. Stand of (length of) (set (set elements place other) range.middle item) (set (set places other place) item range.middle) (set parts k new) in
      let Q : ℕ → Type 0 = λ p. Stand of (length of) (set (set elements p other) range.middle item) (set (set places other p) item range.middle) (set parts (part_of of item) new) in
      let R : ℕ → Type 0 = λ m. Stand of (length of) (set (set elements (get_or places item 0) other) m item)
      (set (set places other (get_or places item 0)) item m) (set parts (part_of of item) new) in
      subst P (sym part_is) (subst Q (sym place_is) (subst R middle_is
      (stand_more of elements places parts stand element_each place_each item known past_place new (ap (λ (r : Range). r.first) at)
      (ap (λ m. m + 1) (sym middle_is)) (ap (λ (r : Range). r.past) at) other read_other)))

  pub marks_marked : (x : ℕ) → x < length of
      → IsMarked of (set (set places other place) item range.middle) (set parts part (record { first = range.first; middle = range.middle + 1; past = range.past })) x
      ↔ (IsMarked of places parts x ⊎ (x ≡ item))
  marks_marked x h =
      let new : Range = record { first = range.first; middle = range.middle + 1; past = range.past } in
      let After : Type 0 = IsMarked of places parts x ⊎ (x ≡ item) in
      let P : ℕ → Type 0 = λ k. IsMarked of (set (set places other place) item range.middle) (set parts k new) x ↔ After in
      let Q : ℕ → Type 0 = λ p. IsMarked of (set (set places other p) item range.middle) (set parts (part_of of item) new) x ↔ After in
      let R : ℕ → Type 0 = λ m. IsMarked of (set (set places other (get_or places item 0)) item m) (set parts (part_of of item) new) x ↔ After in
      subst P (sym part_is) (subst Q (sym place_is) (subst R middle_is
      (marks_more of elements places parts stand element_each place_each item known past_place new (ap (λ (r : Range). r.first) at)
      (ap (λ m. m + 1) (sym middle_is)) (ap (λ (r : Range). r.past) at) other read_other x h)))

-- the same, by what is kept of parts
module _ (of elements places : List ℕ) (ranges : List Range) (parts : List Part) (kept : map kept_of ranges ≡ parts)
    (stand : Stand of (length of) elements places ranges) (element_each : length elements ≡ length of) (place_each : length places ≡ length of)
    (item : ℕ) (known : item < length of) (part place other : ℕ) (range : Part) (part_is : part ≡ part_of of item)
    (place_is : place ≡ get_or places item 0) (range_is : range ≡ part_at parts part) (unmarked : range.first ≤ place)
    (other_is : other ≡ get_or elements range.first 0) where
  whole_is : range_from (range_of ranges part).first range ≡ range_of ranges part
  whole_is = sym (kept_range (range_of ranges part) (range_of ranges part).first range refl
      (sym (kept_at ranges part) ∙ ap (λ ps. part_at ps part) kept ∙ sym range_is))

  middle : range.first ≡ (range_of ranges (part_of of item)).middle
  middle = ap (λ (p : Part). p.first) range_is ∙ middle_kept ranges parts kept part ∙ ap (λ p. (range_of ranges p).middle) part_is

  pub kept_marked : map kept_of (set ranges part (record { first = (range_of ranges part).first; middle = range.first + 1; past = range.past }))
      ≡ set parts part (record { first = range.first + 1; past = range.past })
  kept_marked =
      map-set kept_of ranges part (record { first = (range_of ranges part).first; middle = range.first + 1; past = range.past })
      ∙ ap (λ ps. set ps part (record { first = range.first + 1; past = range.past })) kept

  pub stand_kept : Stand of (length of) (set (set elements place other) range.first item) (set (set places other place) item range.first)
      (set ranges part (record { first = (range_of ranges part).first; middle = range.first + 1; past = range.past }))
  stand_kept =
      stand_marked of elements places ranges stand element_each place_each item known part place other
      (range_from (range_of ranges part).first range) part_is place_is whole_is unmarked other_is

  pub marks_kept : (x : ℕ) → x < length of
      → (get_or (set (set places other place) item range.first) x 0
      < (part_at (set parts part (record { first = range.first + 1; past = range.past })) (part_of of x)).first)
      ↔ (get_or places x 0 < (part_at parts (part_of of x)).first ⊎ (x ≡ item))
  marks_kept x h =
      let now = middle_kept _ _ kept_marked (part_of of x) in
      let was = middle_kept ranges parts kept (part_of of x) in
      let both = marks_marked of elements places ranges stand element_each place_each item known part place other
      (range_from (range_of ranges part).first range) part_is place_is whole_is unmarked other_is x h in (
        λ marked. elim (both.0 (omega arith)) [ inl before ↦ inl (omega arith) | inr is ↦ inr is ],
        λ cases. let marked = both.1 (elim cases [ inl before ↦ inl (omega arith) | inr is ↦ inr is ]) in omega arith,
      )

  pub stays_kept : (x : ℕ) → x < length of → (get_or places x 0 < (part_at parts (part_of of x)).first) ⊎ (part_of of x ≢ part_of of item)
      → get_or (set (set places other place) item range.first) x 0 ≡ get_or places x 0
  stays_kept x h cases =
      let was = middle_kept ranges parts kept (part_of of x) in
      let out = past_at in
      let there = other_at in
      let unlike : x ≢ item = λ is. elim cases [
        | inl marked ↦ omega (arith, ap (λ y. get_or places y 0) is, ap (λ y. (range_of ranges (part_of of y)).middle) is)
        | inr apart ↦ apart (ap (part_of of) is)
      ] in
      let distinct : x ≢ other = λ is. elim cases [
        | inl marked ↦
            omega (
              arith,
              ap (λ y. get_or places y 0) is,
              ap (λ y. (range_of ranges y).middle) (ap (part_of of) is ∙ there.0),
            )
        | inr apart ↦ apart (ap (part_of of) is ∙ there.0)
      ] in
      get_or-set_other (set places other place) item x range.first 0 unlike ∙ get_or-set_other places other x place 0 distinct
    where
      past_at : (range_of ranges (part_of of item)).middle ≤ get_or places item 0
      past_at = omega (arith, middle)

      other_at : (part_of of other ≡ part_of of item) × (get_or places other 0 ≡ (range_of ranges (part_of of item)).middle)
      other_at =
          let is : other ≡ get_or elements (range_of ranges (part_of of item)).middle 0 = other_is ∙ ap (λ k. get_or elements k 0) middle in
          let here = stand.placed item known in
          let order = stand.order (part_of of item) here.known in
          let member = stand.member (part_of of item) (range_of ranges (part_of of item)).middle here.known order.0 (omega (arith, here.below, past_at)) in
          (ap (part_of of) is ∙ member.of_part, ap (λ y. get_or places y 0) is ∙ member.place_is)

  pub goes_kept : get_or (set (set places other place) item range.first) item 0 ≡ (part_at parts (part_of of item)).first
  goes_kept =
      get_or-set_same (set places other place) item range.first 0 (omega (arith, length-set places other place))
      ∙ ap (λ (p : Part). p.first) (range_is ∙ ap (part_at parts) part_is)
