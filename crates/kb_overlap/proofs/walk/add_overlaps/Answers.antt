use Rattle.std.proofs.lemmas.List.{take_rest}
use Rattle.kb_overlap.proofs.Collecting.{collects_none, collects_more, collects_all}
use Rattle.kb_overlap.proofs.walk.add_overlaps.Goals as goal

pub loop-place-init : goal.loop-place-init
loop-place-init c = rw c.requires.empty (collects_none c.args.sides.now c.args.letters.now)

pub loop-place-preserved : goal.loop-place-preserved
loop-place-preserved c =
    collects_more c.loop-place.place c.args.sides.now c.args.letters.now _ c.loop-place.found.items c.add_at_place.new.found.items
    c.loop-place-test.true (take_rest c.args.letters.now c.loop-place.place) c.loop-place.invariant c.in_ok-add_at_place.ensures

pub returns : goal.returns
returns c =
    collects_all c.loop-place.place c.args.sides.now c.args.letters.now c.loop-place.found.items c.loop-place-test.false c.loop-place.invariant
