use Rattle.std.proofs.Common.{add-one, sym}
use Rattle.std.proofs.lemmas.Bool.{eqb-true}
use Rattle.std.proofs.lemmas.Result.{on_ok_weaker}
use Rattle.kb_overlap.proofs.Walking.{walk_more, walk_ended, walk_left}
use Rattle.kb_overlap.proofs.walk.add_at_place.Goals as goal

pub returns-then-is_empty : goal.returns-then-is_empty
returns-then-is_empty c =
    let walk = c.loop-depth in
    walk_left walk.depth c.args.letters.now c.args.sides.now walk.begun.now c.args.place c.args.found.now.items walk.found.items
    (eqb-true _ _ (sym c.if-is_empty.ensures)) walk.invariant.1

pub loop-depth-preserved : goal.loop-depth-preserved
loop-depth-preserved c =
    let walk = c.loop-depth in
    walk_more walk.depth _ c.index-letters-depth.result c.args.letters.now c.args.sides.now walk.begun.now c.part_with.result.now
    c.part_with-begun.result.now c.args.place c.args.found.now.items walk.found.items c.add.new.found.items c.loop-depth-test.true
    c.index-letters-depth.is (add-one walk.depth) c.part_with.ensures c.part_with-begun.ensures c.in_ok-add.ensures walk.invariant.0
    walk.invariant.1

pub returns : goal.returns
returns c =
    let walk = c.loop-depth in
    on_ok_weaker c.add-2.result
    (λ e.
    walk_ended walk.depth c.args.letters.now c.args.sides.now walk.begun.now c.args.place c.args.found.now.items walk.found.items
    c.add-2.new.found.items c.loop-depth-test.false e walk.invariant.1)
    c.add-2.ensures
