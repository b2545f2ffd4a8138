use Rattle.std.proofs.Common.{◌≤◌, ◌+◌, Bool, true, false, get_or, ◌∙◌, arith}
use Rattle.std.specs.Int.{from_bool}
use Rattle.std.proofs.lemmas.List.{length-set}
use Rattle.kb_fsadet.proofs.Marking.{numbers_step}
use Rattle.kb_fsadet.proofs.marks.numbers_of.Goals as goal

-- a mark counts at most one
at_most : (mark : Bool) → from_bool mark ≤ 1
at_most true = omega arith
at_most false = omega arith

pub loop-mark-preserved : goal.loop-mark-preserved
loop-mark-preserved c =
    let so_far = c.loop-mark.invariant in
    let marks = c.args.marks.now in
    let numbers = c.loop-mark.numbers.items in
    let place = c.loop-mark.mark-index in
    let one = c.from-found.ensures in (
      (omega (arith, so_far.0)),
      (omega (arith, one, at_most (get_or marks place false), so_far.1)),
      length-set numbers c.loop-mark.found (c.loop-mark.number + 1) ∙ so_far.2,
      numbers_step marks numbers place c.loop-mark.found c.loop-mark.number c.from-found.result c.loop-mark-test.true so_far.1 so_far.2 one so_far.3,
    )
