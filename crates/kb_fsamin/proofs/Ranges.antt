-- The ranges of parts, by what is kept of them.
use Rattle.std.proofs.Common.{◌≡◌, ℕ, ◌<◌, ◌≤◌, List, map, length, get_or, sym, ap, ◌∙◌, inl, inr, arith}
use Rattle.std.proofs.lemmas.Bool.{cases_lt}
use Rattle.std.proofs.lemmas.List.{length-map, map-id}
use Rattle.std.proofs.lemmas.Simd.{map-map}
use Rattle.std.proofs.Math.ListN.{get_or-map}
use Rattle.kb_fsamin.specs.declared.partition.Part.{Part}
use Rattle.kb_fsamin.specs.declared.partition.Partition.{Partition}
use Rattle.kb_fsamin.specs.Partitions.{Range, kept_of, plain, part_at, part_of, range_of, range_from, IsArranged, IsFirst, IsMarkedIn, IsPartition}

pub kept_at : (ranges : List Range) (part : ℕ) → part_at (map kept_of ranges) part ≡ kept_of (range_of ranges part)
kept_at ranges part = get_or-map kept_of ranges part (record { first = 0; middle = 0; past = 0 })

pub plain_at : (parts : List Part) (part : ℕ) → range_of (map plain parts) part ≡ plain (part_at parts part)
plain_at parts part = get_or-map plain parts part (record { first = 0; past = 0 })

pub kept_plain : (parts : List Part) → map kept_of (map plain parts) ≡ parts
kept_plain parts = map-map kept_of plain parts ∙ map-id parts

-- what is kept are a range's middle and end
pub middle_kept : (ranges : List Range) (parts : List Part) → map kept_of ranges ≡ parts → (part : ℕ) → (part_at parts part).first ≡ (range_of ranges part).middle
middle_kept ranges parts kept part = ap (λ (p : Part). p.first) (ap (λ ps. part_at ps part) (sym kept) ∙ kept_at ranges part)

-- a range by where it begins and what is kept
pub kept_range : (range : Range) (first : ℕ) (part : Part) → range.first ≡ first → kept_of range ≡ part → range ≡ range_from first part
kept_range range first part a b = ap (λ f. range_from f (kept_of range)) a ∙ ap (range_from first) b

module _ (parts : Partition) (arranged : IsArranged parts) where
  pub part_is : (part : ℕ) → part_at parts.parts.items part ≡ kept_of (range_of arranged.ranges part)
  part_is part = ap (λ ps. part_at ps part) (sym arranged.kept_are) ∙ kept_at arranged.ranges part

  pub middle_is : (part : ℕ) → (part_at parts.parts.items part).first ≡ (range_of arranged.ranges part).middle
  middle_is part = ap (λ (p : Part). p.first) (part_is part)

  pub past_is : (part : ℕ) → (part_at parts.parts.items part).past ≡ (range_of arranged.ranges part).past
  past_is part = ap (λ (p : Part). p.past) (part_is part)

  pub range_each : length arranged.ranges ≡ length parts.parts.items
  range_each = sym (length-map arranged.ranges kept_of) ∙ ap length arranged.kept_are

  -- what is kept of a part is within the items
  pub bounds : (part : ℕ) → part < length parts.parts.items
      → ((part_at parts.parts.items part).first ≤ (part_at parts.parts.items part).past)
      × ((part_at parts.parts.items part).past ≤ length parts.elements.items)
  bounds part h =
      let known : part < length arranged.ranges = omega (arith, range_each) in (
        omega (arith, middle_is part, past_is part, (arranged.stand.order part known).1),
        omega (arith, past_is part, arranged.stand.fits part known),
      )

  -- the item that stands where a part begins that has marked ones
  pub marked_first : (part : ℕ) → part < length arranged.ranges → (range_of arranged.ranges part).first < (range_of arranged.ranges part).middle
      → (item : ℕ) × (item < length parts.of.items) × (part_of parts.of.items item ≡ part)
      × (get_or parts.places.items item 0 ≡ (range_of arranged.ranges part).first) × IsMarkedIn parts item
  marked_first part known some =
      let stand = arranged.stand in
      let first = (range_of arranged.ranges part).first in
      let below : first < (range_of arranged.ranges part).past = omega (arith, (stand.order part known).1) in
      let item = get_or parts.elements.items first 0 in
      let member = stand.member part first known (omega arith) below in
      let middle = middle_is (part_of parts.of.items item) in
      let same = ap (λ p. (range_of arranged.ranges p).middle) member.of_part in
      (item, stand.within part first known (omega arith) below, member.of_part, member.place_is, omega (arith, member.place_is))

  -- a part begins with its first item
  pub first_is : (item : ℕ) → item < length parts.of.items → IsMarkedIn parts item → IsFirst parts item
      → (range_of arranged.ranges (part_of parts.of.items item)).first ≡ get_or parts.places.items item 0
  first_is item h marked first =
      let placed = arranged.stand.placed item h in
      elim (cases_lt (range_of arranged.ranges (part_of parts.of.items item)).first (get_or parts.places.items item 0)) [
        | inl before ↦
            let there = marked_first (part_of parts.of.items item) placed.known (omega (arith, middle_is (part_of parts.of.items item))) in
            absurd (omega (arith, first there.0 there.1 there.2, there.3))
        | inr same ↦ omega (arith, placed.above)
      ]

-- the part that a marked item begins, by what is read
module _ (parts : Partition) (arranged : IsArranged parts) (item : ℕ) (h : item < length parts.of.items) (marked : IsMarkedIn parts item)
    (first_item : IsFirst parts item) (part first : ℕ) (whole : Part) (part_at_is : part ≡ part_of parts.of.items item)
    (place_is : first ≡ get_or parts.places.items item 0) (whole_is : whole ≡ part_at parts.parts.items part) where
  pub part_known : part < length arranged.ranges
  part_known = omega (arith, (arranged.stand.placed item h).known)

  pub whole_range : range_of arranged.ranges part ≡ range_from first whole
  whole_range =
      kept_range (range_of arranged.ranges part) first whole
      (ap (λ p. (range_of arranged.ranges p).first) part_at_is ∙ first_is parts arranged item h marked first_item ∙ sym place_is)
      (sym (part_is parts arranged part) ∙ sym whole_is)

  pub whole_order : (first ≤ whole.first) × (whole.first ≤ whole.past)
  whole_order =
      let order = arranged.stand.order part part_known in
      let first_at = ap (λ (r : Range). r.first) whole_range in
      let middle_at = ap (λ (r : Range). r.middle) whole_range in
      let past_at = ap (λ (r : Range). r.past) whole_range in
      (omega (arith, order.0), omega (arith, order.1))

-- a part without marked items begins with the others
pub unmarked_first : (parts : Partition) (is : IsPartition parts) (part : ℕ) → part < length parts.parts.items
    → (range_of is.arranged.ranges part).first ≡ (range_of is.arranged.ranges part).middle
unmarked_first parts is part h =
    let known : part < length is.arranged.ranges = omega (arith, range_each parts is.arranged) in
    elim (cases_lt (range_of is.arranged.ranges part).first (range_of is.arranged.ranges part).middle) [
      | inl some ↦ let there = marked_first parts is.arranged part known some in absurd (is.unmarked there.0 there.1 there.4)
      | inr none ↦ omega (arith, (is.arranged.stand.order part known).0)
    ]
