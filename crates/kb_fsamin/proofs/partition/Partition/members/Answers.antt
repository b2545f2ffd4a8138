use Rattle.std.proofs.Common.{◌≡◌, ◌-◌, ℕ, List, drop, take, length, sym, ap, ◌∙◌, subst, arith}
use Rattle.std.proofs.lemmas.List.{get_or_read}
use Rattle.kb_fsamin.specs.declared.partition.Part.{Part}
use Rattle.kb_fsamin.specs.Partitions.{Range, AreMembers, part_at, range_of, plain}
use Rattle.kb_fsamin.proofs.Counting.{members_are}
use Rattle.kb_fsamin.proofs.Ranges.{bounds, part_is, range_each, kept_range, unmarked_first}
use Rattle.kb_fsamin.proofs.partition.Partition.members.Goals as goal

pub returns : goal.returns
returns c =
    let self = c.args.self.now in
    let part = c.args.part in
    let arranged = c.requires.partition.arranged in
    let range = c.index-range.result.now in
    let read : range ≡ part_at self.parts.items part =
    get_or_read self.parts.items part range c.requires.part c.index-range.ensures (record { first = 0; past = 0 }) in
    let kept = part_is self arranged part in
    let is : range_of arranged.ranges part ≡ plain range =
    kept_range (range_of arranged.ranges part) range.first range
    (unmarked_first self c.requires.partition part c.requires.part ∙ ap (λ (p : Part). p.first) (sym kept ∙ sym read)) (sym kept ∙ sym read) in
    let P : List ℕ → Type 0 = λ es. AreMembers self.of.items part (take (range.past - range.first) (drop range.first es)) in
    let Q : Range → Type 0 = λ r. AreMembers self.of.items part (take (r.past - r.first) (drop r.first self.elements.items)) in
    subst P (sym c.as_slice.ensures.value)
    (subst Q is (members_are self.of.items self.elements.items self.places.items arranged.ranges part arranged.stand
    (omega (arith, range_each self arranged))))

pub slice_bounds-result-count : goal.slice_bounds-result-count
slice_bounds-result-count c =
    let self = c.args.self.now in
    let read : c.index-range.result.now ≡ part_at self.parts.items c.args.part =
    get_or_read self.parts.items c.args.part _ c.requires.part c.index-range.ensures (record { first = 0; past = 0 }) in
    let first = ap (λ (p : Part). p.first) read in
    let past = ap (λ (p : Part). p.past) read in
    omega (arith, (bounds self c.requires.partition.arranged c.args.part c.requires.part).0)

pub slice_bounds-result-start : goal.slice_bounds-result-start
slice_bounds-result-start c =
    let self = c.args.self.now in
    let read : c.index-range.result.now ≡ part_at self.parts.items c.args.part =
    get_or_read self.parts.items c.args.part _ c.requires.part c.index-range.ensures (record { first = 0; past = 0 }) in
    let first = ap (λ (p : Part). p.first) read in
    let past = ap (λ (p : Part). p.past) read in
    omega (arith, (bounds self c.requires.partition.arranged c.args.part c.requires.part).0)

pub slice_bounds-result-end : goal.slice_bounds-result-end
slice_bounds-result-end c =
    let self = c.args.self.now in
    let read : c.index-range.result.now ≡ part_at self.parts.items c.args.part =
    get_or_read self.parts.items c.args.part _ c.requires.part c.index-range.ensures (record { first = 0; past = 0 }) in
    let past = ap (λ (p : Part). p.past) read in
    omega (arith, (bounds self c.requires.partition.arranged c.args.part c.requires.part).1, ap length c.as_slice.ensures.value)
