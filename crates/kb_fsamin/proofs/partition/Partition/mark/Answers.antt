use Rattle.std.proofs.Common.{◌≡◌, ◌<◌, ◌+◌, length, get_or, set, refl, arith, length-set}
use Rattle.std.proofs.lemmas.List.{get_or_read}
use Rattle.kb_fsamin.specs.Partitions.{part_of, part_at, range_of}
use Rattle.kb_fsamin.proofs.Marking.{kept_marked, stand_kept, marks_kept, stays_kept, goes_kept}
use Rattle.kb_fsamin.proofs.Ranges.{range_each}
use Rattle.kb_fsamin.proofs.partition.Partition.mark.Goals as goal

pub returns-then-range-place-clause-arranged : goal.returns-then-range-place-clause-arranged
returns-then-range-place-clause-arranged c =
    let self = c.args.self.now in
    let of = self.of.items in
    let elements = self.elements.items in
    let places = self.places.items in
    let parts = self.parts.items in
    let item = c.args.item in
    let all = c.requires.arranged in
    let part = c.index-part.result.now in
    let place = c.index-place.result.now in
    let other = c.index-other.result.now in
    let range = c.index-range.result.now in
    let part_is : part ≡ part_of of item = get_or_read of item part c.requires.item c.index-part.ensures 0 in
    let known : part < length parts = omega (arith, (all.stand.placed item c.requires.item).known, range_each self all) in
    let place_is : place ≡ get_or places item 0 = get_or_read places item place (omega (arith, all.place_each)) c.index-place.ensures 0 in
    let range_is : range ≡ part_at parts part = get_or_read parts part range known c.index-range.ensures (record { first = 0; past = 0 }) in
    let low : place < length elements =
    omega (arith, (all.stand.placed item c.requires.item).below, all.stand.fits (part_of of item) (all.stand.placed item c.requires.item).known) in
    let other_is : other ≡ get_or elements range.first 0 =
    get_or_read elements range.first other (omega (arith, c.if-range-place.true)) c.index-other.ensures 0 in
    record {
      ranges = set all.ranges part (record { first = (range_of all.ranges part).first; middle = range.first + 1; past = range.past });
      kept_are = kept_marked of elements places all.ranges parts all.kept_are all.stand all.element_each all.place_each item c.requires.item part place other range
          part_is place_is range_is c.if-range-place.true other_is;
      stand = stand_kept of elements places all.ranges parts all.kept_are all.stand all.element_each all.place_each item c.requires.item part place other range
          part_is place_is range_is c.if-range-place.true other_is;
      element_each = omega (arith, length-set (set elements place other) range.first item, length-set elements place other, all.element_each);
      place_each = omega (arith, length-set (set places other place) item range.first, length-set places other place, all.place_each);
      few = all.few;
      few_parts = omega (arith, length-set parts part (record { first = range.first + 1; past = range.past }), all.few_parts);
    }

pub returns-then-range-place-clause-marked : goal.returns-then-range-place-clause-marked
returns-then-range-place-clause-marked c =
    let self = c.args.self.now in
    let of = self.of.items in
    let elements = self.elements.items in
    let places = self.places.items in
    let parts = self.parts.items in
    let item = c.args.item in
    let all = c.requires.arranged in
    let part = c.index-part.result.now in
    let place = c.index-place.result.now in
    let other = c.index-other.result.now in
    let range = c.index-range.result.now in
    let part_is : part ≡ part_of of item = get_or_read of item part c.requires.item c.index-part.ensures 0 in
    let known : part < length parts = omega (arith, (all.stand.placed item c.requires.item).known, range_each self all) in
    let place_is : place ≡ get_or places item 0 = get_or_read places item place (omega (arith, all.place_each)) c.index-place.ensures 0 in
    let range_is : range ≡ part_at parts part = get_or_read parts part range known c.index-range.ensures (record { first = 0; past = 0 }) in
    let low : place < length elements =
    omega (arith, (all.stand.placed item c.requires.item).below, all.stand.fits (part_of of item) (all.stand.placed item c.requires.item).known) in
    let other_is : other ≡ get_or elements range.first 0 =
    get_or_read elements range.first other (omega (arith, c.if-range-place.true)) c.index-other.ensures 0 in
    record {
      of_is = refl;
      count = length-set parts part (record { first = range.first + 1; past = range.past });
      marked = marks_kept of elements places all.ranges parts all.kept_are all.stand all.element_each all.place_each item c.requires.item part place other range
          part_is place_is range_is c.if-range-place.true other_is;
      stays = stays_kept of elements places all.ranges parts all.kept_are all.stand all.element_each all.place_each item c.requires.item part place other range
          part_is place_is range_is c.if-range-place.true other_is;
      goes = λ _. goes_kept of elements places all.ranges parts all.kept_are all.stand all.element_each all.place_each item c.requires.item part place other range
          part_is place_is range_is c.if-range-place.true other_is;
    }
