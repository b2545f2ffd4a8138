-- A part is divided into its marked items and the others.
use Rattle.std.proofs.Common.{◌≡◌, ◌≢◌, ◌⊎◌, ◌↔◌, ℕ, ◌+◌, ◌<◌, ◌≤◌, List, [], ◌∷◌, ◌++◌, length, get_or, map, set, refl, sym, ap, ◌∙◌, inl, inr, arith, length-set}
use Rattle.std.proofs.lemmas.Bool.{cases_eq, cases_lt}
use Rattle.std.proofs.lemmas.List.{map-append, map-set, length_push, get_or_push, get_or_append_left}
use Rattle.kb_fsamin.specs.declared.partition.Part.{Part}
use Rattle.kb_fsamin.specs.Partitions.{Range, kept_of, plain, part_of, range_of, IsMarked, Stand, IsPlaced, IsMember, AreHalves, AreRelabelled}
use Rattle.kb_fsamin.specs.Partitions.AreHalves.{others_first, marked_first}
use Rattle.kb_fsamin.proofs.Marking.{range_here, range_there}

-- what the halves of a part are to the whole
pub record Sides (whole rest new : Range) : Type 0 where
  pub new_low : whole.first ≤ new.first
  pub new_high : new.past ≤ whole.past
  pub rest_low : whole.first ≤ rest.first
  pub rest_high : rest.past ≤ whole.past
  pub new_order : new.first ≤ new.past
  pub rest_order : rest.first ≤ rest.past
  pub new_middle : new.middle ≡ new.first
  pub rest_middle : rest.middle ≡ rest.first
  pub cases : (place : ℕ) → whole.first ≤ place → place < whole.past
      → ((new.first ≤ place) × (place < new.past)) ⊎ ((rest.first ≤ place) × (place < rest.past))
  pub apart : (place : ℕ) → new.first ≤ place → place < new.past → rest.first ≤ place → place < rest.past → ⊥
  pub one_side : (place other : ℕ) → whole.first ≤ other → other < whole.past → (place < whole.middle) ↔ (other < whole.middle)
      → new.first ≤ place → place < new.past → (new.first ≤ other) × (other < new.past)

pub sides : (whole rest new : Range) → whole.first ≤ whole.middle → whole.middle ≤ whole.past → AreHalves whole rest new → Sides whole rest new
sides whole rest new low high others_first = record {
  new_low = omega arith;
  new_high = omega arith;
  rest_low = omega arith;
  rest_high = omega arith;
  new_order = omega arith;
  rest_order = omega arith;
  new_middle = refl;
  rest_middle = refl;
  cases = λ place above below. elim (cases_lt place whole.middle) [ inl marked ↦ inl (above, marked) | inr other ↦ inr (other, below) ];
  apart = λ place a b e f. omega arith;
  one_side = λ place other above below both a b. (above, both.0 b);
}
sides whole rest new low high marked_first = record {
  new_low = omega arith;
  new_high = omega arith;
  rest_low = omega arith;
  rest_high = omega arith;
  new_order = omega arith;
  rest_order = omega arith;
  new_middle = refl;
  rest_middle = refl;
  cases = λ place above below. elim (cases_lt place whole.middle) [ inl marked ↦ inr (above, marked) | inr other ↦ inl (other, below) ];
  apart = λ place a b e f. omega arith;
  one_side = λ place other above below both a b.
      elim (cases_lt other whole.middle) [
        | inl marked ↦ let less = both.1 marked in absurd (omega arith)
        | inr rest ↦ (rest, below)
      ];
}

-- where an item goes
pub data Goes (before after place part number : ℕ) (new rest : Range) : Type 0 where
  to_new : before ≡ part → new.first ≤ place → place < new.past → after ≡ number → Goes before after place part number new rest
  stays : before ≡ part → rest.first ≤ place → place < rest.past → (new.first ≤ place → place < new.past → ⊥) → after ≡ part → Goes before after place part number new rest
  elsewhere : before ≢ part → after ≡ before → Goes before after place part number new rest

module _ (of of' elements places : List ℕ) (parts : List Range) (stand : Stand of (length of) elements places parts) (part : ℕ) (known : part < length parts)
    (rest new : Range) (halves : AreHalves (range_of parts part) rest new)
    (relabelled : AreRelabelled places new.first (length parts) new.past of of') where
  both : Sides (range_of parts part) rest new
  both = sides (range_of parts part) rest new (stand.order part known).0 (stand.order part known).1 halves

  -- what stands in the new range was in the part
  was_there : (x : ℕ) → x < length of → new.first ≤ get_or places x 0 → get_or places x 0 < new.past → part_of of x ≡ part
  was_there x h above below =
      ap (part_of of) (sym (stand.placed x h).element)
      ∙ (stand.member part (get_or places x 0) known (omega (arith, both.new_low)) (omega (arith, both.new_high))).of_part

  goes : (x : ℕ) → x < length of → Goes (part_of of x) (part_of of' x) (get_or places x 0) part (length parts) new rest
  goes x h = elim (cases_eq (part_of of x) part) [
    | inl is ↦
        let was = stand.placed x h in
        let first = ap (λ p. (range_of parts p).first) is in
        let past = ap (λ p. (range_of parts p).past) is in
        elim (both.cases (get_or places x 0) (omega (arith, was.above)) (omega (arith, was.below))) [
          | inl there ↦ to_new is there.0 there.1 (relabelled.inside x h there.0 there.1)
          | inr rests ↦
              let out : new.first ≤ get_or places x 0 → get_or places x 0 < new.past → ⊥ = λ a b. both.apart (get_or places x 0) a b rests.0 rests.1 in
              stays is rests.0 rests.1 out (relabelled.outside x h out ∙ is)
        ]
    | inr apart ↦ elsewhere apart (relabelled.outside x h (λ a b. apart (was_there x h a b)))
  ]

  size : length (set (parts ++ new ∷ []) part rest) ≡ length parts + 1
  size = length-set (parts ++ new ∷ []) part rest ∙ length_push parts new

  range_rest : (k : ℕ) → k ≡ part → range_of (set (parts ++ new ∷ []) part rest) k ≡ rest
  range_rest k is = range_here (parts ++ new ∷ []) part rest k (omega (arith, length_push parts new)) is

  range_new : (k : ℕ) → k ≡ length parts → range_of (set (parts ++ new ∷ []) part rest) k ≡ new
  range_new k is =
      range_there (parts ++ new ∷ []) part rest k (λ same. omega arith)
      ∙ get_or_push parts new (record { first = 0; middle = 0; past = 0 }) k (sym is)

  range_old : (k : ℕ) → k < length parts → k ≢ part → range_of (set (parts ++ new ∷ []) part rest) k ≡ range_of parts k
  range_old k h apart =
      range_there (parts ++ new ∷ []) part rest k apart ∙ get_or_append_left parts (new ∷ []) (record { first = 0; middle = 0; past = 0 }) k h

  placed : (x : ℕ) → x < length of → IsPlaced of' elements places (set (parts ++ new ∷ []) part rest) x
  placed x h =
      let was = stand.placed x h in
      elim (goes x h) [
        | to_new is above below after ↦
            let first = ap (λ (r : Range). r.first) (range_new _ after) in
            let past = ap (λ (r : Range). r.past) (range_new _ after) in
            record { known = omega (arith, size); above = omega arith; below = omega arith; element = was.element }
        | stays is above below out after ↦
            let first = ap (λ (r : Range). r.first) (range_rest _ after) in
            let past = ap (λ (r : Range). r.past) (range_rest _ after) in
            record { known = omega (arith, size); above = omega arith; below = omega arith; element = was.element }
        | elsewhere apart after ↦
            let same = ap (range_of (set (parts ++ new ∷ []) part rest)) after ∙ range_old (part_of of x) was.known apart in
            let first = ap (λ (r : Range). r.first) same in
            let past = ap (λ (r : Range). r.past) same in
            record { known = omega (arith, size, was.known); above = omega (arith, was.above); below = omega (arith, was.below); element = was.element }
      ]

  stands : (k place : ℕ) → k < length (set (parts ++ new ∷ []) part rest) → (range_of (set (parts ++ new ∷ []) part rest) k).first ≤ place
      → place < (range_of (set (parts ++ new ∷ []) part rest) k).past → (get_or elements place 0 < length of) × IsMember of' elements places k place
  stands k place h above below = elim (cases_eq k part) [
    | inl is ↦
        let first = ap (λ (r : Range). r.first) (range_rest k is) in
        let past = ap (λ (r : Range). r.past) (range_rest k is) in
        let a : (range_of parts part).first ≤ place = omega (arith, both.rest_low) in
        let b : place < (range_of parts part).past = omega (arith, both.rest_high) in
        let within = stand.within part place known a b in
        let was = stand.member part place known a b in
        let at = was.place_is in (
          within,
          record {
            of_part = relabelled.outside _ within (λ low high. both.apart place (omega arith) (omega arith) (omega arith) (omega arith)) ∙ was.of_part ∙ sym is;
            place_is = at;
          },
        )
    | inr apart ↦ elim (cases_eq k (length parts)) [
      | inl is ↦
          let first = ap (λ (r : Range). r.first) (range_new k is) in
          let past = ap (λ (r : Range). r.past) (range_new k is) in
          let a : (range_of parts part).first ≤ place = omega (arith, both.new_low) in
          let b : place < (range_of parts part).past = omega (arith, both.new_high) in
          let within = stand.within part place known a b in
          let at = (stand.member part place known a b).place_is in
          (within, record { of_part = relabelled.inside _ within (omega arith) (omega arith) ∙ sym is; place_is = at })
      | inr differ ↦
          let low : k < length parts = omega (arith, size) in
          let first = ap (λ (r : Range). r.first) (range_old k low apart) in
          let past = ap (λ (r : Range). r.past) (range_old k low apart) in
          let a : (range_of parts k).first ≤ place = omega arith in
          let b : place < (range_of parts k).past = omega arith in
          let within = stand.within k place low a b in
          let was = stand.member k place low a b in (
            within,
            record {
              of_part = relabelled.outside _ within (λ low high. apart (sym was.of_part ∙ was_there _ within low high)) ∙ was.of_part;
              place_is = was.place_is;
            },
          )
    ]
  ]

  pub stand_divided : Stand of' (length of) elements places (set (parts ++ new ∷ []) part rest)
  stand_divided = record {
    placed = placed;
    within = λ k place h above below. (stands k place h above below).0;
    member = λ k place h above below. (stands k place h above below).1;
    fits = λ k h. elim (cases_eq k part) [
      | inl is ↦ omega (arith, ap (λ (r : Range). r.past) (range_rest k is), both.rest_high, stand.fits part known)
      | inr apart ↦ elim (cases_eq k (length parts)) [
        | inl is ↦ omega (arith, ap (λ (r : Range). r.past) (range_new k is), both.new_high, stand.fits part known)
        | inr differ ↦
            let low : k < length parts = omega (arith, size) in
            omega (arith, ap (λ (r : Range). r.past) (range_old k low apart), stand.fits k low)
      ]
    ];
    order = λ k h. elim (cases_eq k part) [
      | inl is ↦
          let same = range_rest k is in
          let first = ap (λ (r : Range). r.first) same in
          let middle = ap (λ (r : Range). r.middle) same in
          let past = ap (λ (r : Range). r.past) same in
          (omega (arith, both.rest_middle), omega (arith, both.rest_middle, both.rest_order))
      | inr apart ↦ elim (cases_eq k (length parts)) [
        | inl is ↦
            let same = range_new k is in
            let first = ap (λ (r : Range). r.first) same in
            let middle = ap (λ (r : Range). r.middle) same in
            let past = ap (λ (r : Range). r.past) same in
            (omega (arith, both.new_middle), omega (arith, both.new_middle, both.new_order))
        | inr differ ↦
            let low : k < length parts = omega (arith, size) in
            let same = range_old k low apart in
            let first = ap (λ (r : Range). r.first) same in
            let middle = ap (λ (r : Range). r.middle) same in
            let past = ap (λ (r : Range). r.past) same in
            let old = stand.order k low in
            (omega arith, omega arith)
      ]
    ];
  }

  -- the marks of two items of the part, by their places
  marks_at : (x : ℕ) → part_of of x ≡ part → (range_of parts (part_of of x)).middle ≡ (range_of parts part).middle
  marks_at x is = ap (λ p. (range_of parts p).middle) is

  moves_too : (one other : ℕ) → one < length of → other < length of → part_of of one ≡ part → part_of of other ≡ part
      → IsMarked of places parts one ↔ IsMarked of places parts other → new.first ≤ get_or places one 0 → get_or places one 0 < new.past
      → (new.first ≤ get_or places other 0) × (get_or places other 0 < new.past)
  moves_too one other h i is too marks above below =
      let was = stand.placed other i in
      let first = ap (λ p. (range_of parts p).first) too in
      let past = ap (λ p. (range_of parts p).past) too in
      let mine = marks_at one is in
      let theirs = marks_at other too in
      let there : get_or places one 0 < (range_of parts part).middle → get_or places other 0 < (range_of parts part).middle = λ low. let m = marks.0 (omega arith) in omega arith in
      let back : get_or places other 0 < (range_of parts part).middle → get_or places one 0 < (range_of parts part).middle = λ low. let m = marks.1 (omega arith) in omega arith in
      both.one_side (get_or places one 0) (get_or places other 0) (omega (arith, was.above)) (omega (arith, was.below)) (there, back) above below

  pub keeps : (one other : ℕ) → one < length of → other < length of → part_of of one ≡ part_of of other
      → IsMarked of places parts one ↔ IsMarked of places parts other → part_of of' one ≡ part_of of' other
  keeps one other h i same marks = elim (goes one h) [
    | to_new is above below after ↦
        let too = moves_too one other h i is (sym same ∙ is) marks above below in
        after ∙ sym (relabelled.inside other i too.0 too.1)
    | stays is above below out after ↦ elim (goes other i) [
      | to_new is2 above2 below2 after2 ↦
          let too = moves_too other one i h is2 is (marks.1, marks.0) above2 below2 in
          absurd (out too.0 too.1)
      | stays is2 above2 below2 out2 after2 ↦ after ∙ sym after2
      | elsewhere apart after2 ↦ absurd (apart (sym same ∙ is))
    ]
    | elsewhere apart after ↦ elim (goes other i) [
      | to_new is2 above2 below2 after2 ↦ absurd (apart (same ∙ is2))
      | stays is2 above2 below2 out2 after2 ↦ absurd (apart (same ∙ is2))
      | elsewhere apart2 after2 ↦ after ∙ same ∙ sym after2
    ]
  ]

  pub splits : (one other : ℕ) → one < length of → other < length of → part_of of' one ≡ part_of of' other → part_of of one ≡ part_of of other
  splits one other h i same =
      let low = (stand.placed one h).known in
      let less = (stand.placed other i).known in
      elim (goes one h) [
        | to_new is above below after ↦ elim (goes other i) [
          | to_new is2 above2 below2 after2 ↦ is ∙ sym is2
          | stays is2 above2 below2 out2 after2 ↦ absurd (omega arith)
          | elsewhere apart2 after2 ↦ absurd (omega arith)
        ]
        | stays is above below out after ↦ elim (goes other i) [
          | to_new is2 above2 below2 after2 ↦ absurd (omega arith)
          | stays is2 above2 below2 out2 after2 ↦ is ∙ sym is2
          | elsewhere apart2 after2 ↦ absurd (apart2 (sym after2 ∙ sym same ∙ after))
        ]
        | elsewhere apart after ↦ elim (goes other i) [
          | to_new is2 above2 below2 after2 ↦ absurd (omega arith)
          | stays is2 above2 below2 out2 after2 ↦ absurd (apart (sym after ∙ same ∙ after2))
          | elsewhere apart2 after2 ↦ sym after ∙ same ∙ after2
        ]
      ]

  pub cleared : (x : ℕ) → x < length of → part_of of x ≡ part → ¬ IsMarked of' places (set (parts ++ new ∷ []) part rest) x
  cleared x h was = λ marked. elim (goes x h) [
    | to_new is above below after ↦ omega (arith, ap (λ (r : Range). r.middle) (range_new _ after), both.new_middle)
    | stays is above below out after ↦ omega (arith, ap (λ (r : Range). r.middle) (range_rest _ after), both.rest_middle)
    | elsewhere apart after ↦ apart was
  ]

  pub kept : (x : ℕ) → x < length of → part_of of x ≢ part
      → IsMarked of' places (set (parts ++ new ∷ []) part rest) x ↔ IsMarked of places parts x
  kept x h apart =
      let after : part_of of' x ≡ part_of of x = relabelled.outside x h (λ a b. apart (was_there x h a b)) in
      let same = ap (λ (r : Range). r.middle)
      (ap (range_of (set (parts ++ new ∷ []) part rest)) after ∙ range_old (part_of of x) (stand.placed x h).known apart) in
      (λ marked. omega arith, λ marked. omega arith)

-- what is kept of the parts then
pub kept_divided : (ranges : List Range) (parts : List Part) → map kept_of ranges ≡ parts → (part : ℕ) (rest new : Part)
    → map kept_of (set (ranges ++ plain new ∷ []) part (plain rest)) ≡ set (parts ++ new ∷ []) part rest
kept_divided ranges parts kept part rest new =
    map-set kept_of (ranges ++ plain new ∷ []) part (plain rest)
    ∙ ap (λ ps. set ps part rest) (map-append kept_of ranges (plain new ∷ []) ∙ ap (λ ps. ps ++ new ∷ []) kept)

-- other items of the part are marked, and no others
pub stand_remarked : (of elements places : List ℕ) (ranges : List Range) → Stand of (length of) elements places ranges
    → (part : ℕ) (range : Range) → part < length ranges → range.first ≡ (range_of ranges part).first → range.past ≡ (range_of ranges part).past
    → range.first ≤ range.middle → range.middle ≤ range.past → Stand of (length of) elements places (set ranges part range)
stand_remarked of elements places ranges stand part range known first_is past_is low high = record {
  placed = λ item h.
      let was = stand.placed item h in
      let same = ends (part_of of item) in
      record { known = omega (arith, size, was.known); above = omega (arith, was.above); below = omega (arith, was.below); element = was.element };
  within = λ k place h above below. let same = ends k in stand.within k place (omega (arith, size)) (omega arith) (omega arith);
  member = λ k place h above below. let same = ends k in stand.member k place (omega (arith, size)) (omega arith) (omega arith);
  fits = λ k h. let same = ends k in omega (arith, stand.fits k (omega (arith, size)));
  order = λ k h. elim (cases_eq k part) [
    | inl is ↦
        let here = range_here ranges part range k known is in
        let first = ap (λ (r : Range). r.first) here in
        let middle = ap (λ (r : Range). r.middle) here in
        let past = ap (λ (r : Range). r.past) here in
        (omega arith, omega arith)
    | inr apart ↦
        let there = range_there ranges part range k apart in
        let first = ap (λ (r : Range). r.first) there in
        let middle = ap (λ (r : Range). r.middle) there in
        let past = ap (λ (r : Range). r.past) there in
        let old = stand.order k (omega (arith, size)) in
        (omega arith, omega arith)
  ];
}
  where
    size : length (set ranges part range) ≡ length ranges
    size = length-set ranges part range

    ends : (k : ℕ) → ((range_of (set ranges part range) k).first ≡ (range_of ranges k).first)
        × ((range_of (set ranges part range) k).past ≡ (range_of ranges k).past)
    ends k = elim (cases_eq k part) [
      | inl is ↦
          let here = range_here ranges part range k known is in (
            ap (λ (r : Range). r.first) here ∙ first_is ∙ ap (λ p. (range_of ranges p).first) (sym is),
            ap (λ (r : Range). r.past) here ∙ past_is ∙ ap (λ p. (range_of ranges p).past) (sym is),
          )
      | inr apart ↦
          let there = range_there ranges part range k apart in
          (ap (λ (r : Range). r.first) there, ap (λ (r : Range). r.past) there)
    ]
