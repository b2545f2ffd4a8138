use Rattle.std.proofs.Common.{◌≡◌, ◌∙◌, arith}
use Rattle.kb_fsa.specs.Table.{Moves, moves_of}
use Rattle.kb_minkb.proofs.MarkLemmas.{no_moves_marked, one_move_marked, all_moves_marked}
use Rattle.kb_minkb.proofs.marks.mark_moves.Goals as goal

pub loop-entry-init : goal.loop-entry-init
loop-entry-init c = no_moves_marked c.as_slice-entry-items.result.now c.args.marks.now.items

pub loop-entry-preserved : goal.loop-entry-preserved
loop-entry-preserved c =
    one_move_marked c.as_slice-entry-items.result.now c.loop-entry.entry-index c.args.marks.now.items c.loop-entry.marks.items c.mark.new.marks.items
    c.loop-entry-test.true c.loop-entry.invariant c.mark.ensures.here c.mark.ensures.others

pub returns : goal.returns
returns c =
    let items : Moves = c.as_slice-entry-items.result.now in
    let table = c.args.multiplier.now.table in
    let are : items ≡ moves_of table c.args.state = c.as_slice-entry-items.ensures.value ∙ c.moves.ensures.moves in
    all_moves_marked table c.args.state items c.loop-entry.entry-index c.args.marks.now.items c.loop-entry.marks.items
    are (omega arith) c.loop-entry.invariant
