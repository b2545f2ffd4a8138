-- Numbered items in parts, which lists of items split.
use Rattle.std.specs.Prelude.{◌≡◌, ◌≢◌, ◌⊎◌, ◌↔◌, ℕ, ◌+◌, ◌<◌, ◌≤◌, ◌^◌, nat_eq, List, length, get_or, map, take, sum, count_by, All, Contains}
use Rattle.kb_fsamin.specs.declared.partition.Part.{Part}
use Rattle.kb_fsamin.specs.declared.partition.Partition.{Partition}

-- the part of an item
abbrev pub part_of : List ℕ → ℕ → ℕ
part_of parts item = get_or parts item 0

-- Where the items of a part stand: the marked ones from the first place to the middle, and then the others.
pub record Range : Type 0 where
  pub first : ℕ
  pub middle : ℕ
  pub past : ℕ

-- what is kept of it
abbrev pub kept_of : Range → Part
kept_of range = record { first = range.middle; past = range.past }

-- the range of a part that begins at the place
abbrev pub range_from : ℕ → Part → Range
range_from first part = record { first = first; middle = part.first; past = part.past }

-- the range of a part without marked items
abbrev pub plain : Part → Range
plain part = range_from part.first part

-- what is kept of a part
abbrev pub part_at : List Part → ℕ → Part
part_at parts part = get_or parts part (record { first = 0; past = 0 })

-- its range
abbrev pub range_of : List Range → ℕ → Range
range_of ranges part = get_or ranges part (record { first = 0; middle = 0; past = 0 })

-- The item stands in the range of its part.
pub record IsPlaced (of elements places : List ℕ) (parts : List Range) (item : ℕ) : Type 0 where
  pub known : part_of of item < length parts
  pub above : (range_of parts (part_of of item)).first ≤ get_or places item 0
  pub below : get_or places item 0 < (range_of parts (part_of of item)).past
  pub element : get_or elements (get_or places item 0) 0 ≡ item

-- In the range of the part an item of it stands at the place.
pub record IsMember (of elements places : List ℕ) (part place : ℕ) : Type 0 where
  pub of_part : part_of of (get_or elements place 0) ≡ part
  pub place_is : get_or places (get_or elements place 0) 0 ≡ place

-- The first items, as many as are done, stand in the ranges of their parts, and nothing else stands there.
pub record Stand (of : List ℕ) (done : ℕ) (elements places : List ℕ)
    (parts : List Range) : Type 0 where
  pub placed : (item : ℕ) → item < done → IsPlaced of elements places parts item
  pub within : (part place : ℕ) → part < length parts → (range_of parts part).first ≤ place
      → place < (range_of parts part).past
      → get_or elements place 0 < done
  pub member : (part place : ℕ) → part < length parts → (range_of parts part).first ≤ place
      → place < (range_of parts part).past
      → IsMember of elements places part place
  pub fits : (part : ℕ) → part < length parts → (range_of parts part).past ≤ length elements
  pub order : (part : ℕ) → part < length parts
      → ((range_of parts part).first ≤ (range_of parts part).middle)
      × ((range_of parts part).middle ≤ (range_of parts part).past)

-- the item stands among the marked items of its part
abbrev pub IsMarked : List ℕ → List ℕ → List Range → ℕ → Type 0
IsMarked of places parts item = get_or places item 0 < (range_of parts (part_of of item)).middle

-- all items stand in the ranges of their parts
pub record IsArranged (parts : Partition) : Type 0 where
  pub ranges : List Range
  pub kept_are : map kept_of ranges ≡ parts.parts.items
  pub stand : Stand parts.of.items (length parts.of.items) parts.elements.items parts.places.items
      ranges
  pub element_each : length parts.elements.items ≡ length parts.of.items
  pub place_each : length parts.places.items ≡ length parts.of.items
  pub few : length parts.of.items < 2 ^ 32
  pub few_parts : length parts.parts.items < 2 ^ 32

-- the item of the partition is marked
abbrev pub IsMarkedIn : Partition → ℕ → Type 0
IsMarkedIn parts item =
    get_or parts.places.items item 0
    < (part_at parts.parts.items (part_of parts.of.items item)).first

-- all items stand in the ranges of their parts, and none is marked
pub record IsPartition (parts : Partition) : Type 0 where
  pub arranged : IsArranged parts
  pub unmarked : (item : ℕ) → item < length parts.of.items → ¬ IsMarkedIn parts item

-- the first item of the part of an item, as they stand
abbrev pub first_of : Partition → ℕ → ℕ
first_of parts part = get_or parts.elements.items (part_at parts.parts.items part).first 0

-- The parts are split by the items: what was in one part stays so where both are among the items, or neither. What was
-- in two parts is still.
pub record IsSplitBy (items old new : List ℕ) : Type 0 where
  pub one_each : length new ≡ length old
  pub keeps : (one other : ℕ) → one < length old → other < length old
      → part_of old one ≡ part_of old other
      → Contains items one ↔ Contains items other → part_of new one ≡ part_of new other
  pub splits : (one other : ℕ) → one < length old → other < length old
      → part_of new one ≡ part_of new other
      → part_of old one ≡ part_of old other

-- The item is marked, and nothing else is. It goes to the first place of those that are not marked, and the marked
-- ones stay, and what is in other parts.
pub record IsMarkedMore (item : ℕ) (old new : Partition) : Type 0 where
  pub of_is : new.of.items ≡ old.of.items
  pub count : length new.parts.items ≡ length old.parts.items
  pub marked : (other : ℕ) → other < length old.of.items → IsMarkedIn new other
      ↔ (IsMarkedIn old other ⊎ (other ≡ item))
  pub stays : (other : ℕ) → other < length old.of.items
      → IsMarkedIn old other ⊎ (part_of old.of.items other ≢ part_of old.of.items item)
      → get_or new.places.items other 0 ≡ get_or old.places.items other 0
  pub goes : ¬ IsMarkedIn old item → get_or new.places.items item 0
      ≡ (part_at old.parts.items (part_of old.of.items item)).first

-- The part is split into its marked items and the others, none of which is marked; other parts are as they were.
pub record IsDivided (part : ℕ) (old new : Partition) : Type 0 where
  pub places_are : new.places.items ≡ old.places.items
  pub one_each : length new.of.items ≡ length old.of.items
  pub keeps : (one other : ℕ) → one < length old.of.items → other < length old.of.items
      → part_of old.of.items one ≡ part_of old.of.items other
      → IsMarkedIn old one ↔ IsMarkedIn old other
      → part_of new.of.items one ≡ part_of new.of.items other
  pub splits : (one other : ℕ) → one < length old.of.items → other < length old.of.items
      → part_of new.of.items one ≡ part_of new.of.items other
      → part_of old.of.items one ≡ part_of old.of.items other
  pub cleared : (item : ℕ) → item < length old.of.items → part_of old.of.items item ≡ part
      → ¬ IsMarkedIn new item
  pub kept : (item : ℕ) → item < length old.of.items → part_of old.of.items item ≢ part
      → IsMarkedIn new item ↔ IsMarkedIn old item

-- The parts are those of before, and the items in the list are marked.
pub record AreMarked (items : List ℕ) (old new : Partition) : Type 0 where
  pub arranged : IsArranged new
  pub of_is : new.of.items ≡ old.of.items
  pub marked : (item : ℕ) → item < length old.of.items → IsMarkedIn new item ↔ Contains items item

-- no item of the item's part stands before it
abbrev pub IsFirst : Partition → ℕ → Type 0
IsFirst parts item = (other : ℕ) → other < length parts.of.items
    → part_of parts.of.items other ≡ part_of parts.of.items item
    → get_or parts.places.items item 0 ≤ get_or parts.places.items other 0

-- an item of the list, up to the place, stands first in the part of the one at the place
pub record HasFirst (items : List ℕ) (place : ℕ) (parts : Partition) : Type 0 where
  pub earlier : ℕ
  pub up_to : earlier ≤ place
  pub same : part_of parts.of.items (get_or items earlier 0)
      ≡ part_of parts.of.items (get_or items place 0)
  pub first : IsFirst parts (get_or items earlier 0)

-- so it is for each of the first items that is marked
abbrev pub AreLed : List ℕ → ℕ → Partition → Type 0
AreLed items done parts = (place : ℕ) → place < done → IsMarkedIn parts (get_or items place 0)
    → HasFirst items place parts

-- Of the marked items the parts of those that are done are split, and these are marked no more.
pub record AreDivided (items done : List ℕ) (old new : Partition) : Type 0 where
  pub arranged : IsArranged new
  pub split : IsSplitBy items old.of.items new.of.items
  pub sound : (item : ℕ) → item < length old.of.items → IsMarkedIn new item → Contains items item
  pub cleared : (item : ℕ) → item < length old.of.items → Contains done item → ¬ IsMarkedIn new item
  pub even : (one other : ℕ) → one < length old.of.items → other < length old.of.items
      → part_of new.of.items one ≡ part_of new.of.items other
      → Contains items one ↔ Contains items other
      → IsMarkedIn new one → IsMarkedIn new other

-- an item is found at the place
pub record IsFound (of elements places : List ℕ) (place : ℕ) : Type 0 where
  pub item : get_or elements place 0 < length of
  pub place_is : get_or places (get_or elements place 0) 0 ≡ place

-- the items that stand from the first place up to the other one are in the part, and the others where they were
pub record AreRelabelled (places : List ℕ) (first part place : ℕ)
    (old new : List ℕ) : Type 0 where
  pub one_each : length new ≡ length old
  pub inside : (item : ℕ) → item < length old → first ≤ get_or places item 0
      → get_or places item 0 < place
      → part_of new item ≡ part
  pub outside : (item : ℕ) → item < length old
      → (first ≤ get_or places item 0 → get_or places item 0 < place → ⊥)
      → part_of new item ≡ part_of old item

-- the list has the items of the part
pub record AreMembers (of : List ℕ) (part : ℕ) (listed : List ℕ) : Type 0 where
  pub sound : All (λ item. (item < length of) × (part_of of item ≡ part)) listed
  pub complete : (item : ℕ) → item < length of → part_of of item ≡ part → Contains listed item

-- how many of the items have the part
abbrev pub occurrences : ℕ → List ℕ → ℕ
occurrences part of = count_by (λ other. nat_eq other part) of

-- how many of the first items, as many as are done, each part has
pub record AreCounts (of : List ℕ) (done count : ℕ) (counts : List ℕ) : Type 0 where
  pub one_each : length counts ≡ count
  pub each : (part : ℕ) → part < count → get_or counts part 0 ≡ occurrences part (take done of)
  pub total : sum counts ≡ done

-- The first ranges, as many as are done, leave room for as many items, and have none.
pub record AreRanges (counts : List ℕ) (done : ℕ) (parts : List Part) : Type 0 where
  pub one_each : length parts ≡ done
  pub empty : (part : ℕ) → part < done
      → part_at parts part
      ≡ record { first = sum (take part counts); past = sum (take part counts) }

-- Ranges with room for as many items have the first items, as many as are done.
pub record AreFilled (of counts : List ℕ) (done : ℕ) (elements places : List ℕ)
    (parts : List Range) : Type 0 where
  pub one_each : length parts ≡ length counts
  pub first : (part : ℕ) → part < length counts
      → (range_of parts part).first ≡ sum (take part counts)
  pub past : (part : ℕ) → part < length counts
      → (range_of parts part).past ≡ sum (take part counts) + occurrences part (take done of)
  pub none_marked : (part : ℕ) → part < length counts
      → (range_of parts part).middle ≡ sum (take part counts)
  pub element_each : length elements ≡ length of
  pub place_each : length places ≡ done
  pub stand : Stand of done elements places parts

-- two ranges without marked items, one of the marked items of the whole, and one of the others
pub data AreHalves (whole : Range) : Range → Range → Type 0 where
  others_first : AreHalves whole
      (record { first = whole.middle; middle = whole.middle; past = whole.past })
      (record { first = whole.first; middle = whole.first; past = whole.middle })
  marked_first : AreHalves whole
      (record { first = whole.first; middle = whole.first; past = whole.middle })
      (record { first = whole.middle; middle = whole.middle; past = whole.past })
