use Rattle.std.proofs.Common.{sym, ◌∙◌, subst}
use Rattle.kb_fsa.specs.Table.{Moves}
use Rattle.kb_explore.specs.Machine.{AreMovesOf}
use Rattle.kb_fsafile.specs.Languages.{machine_of}
use Rattle.kb_fsafile.proofs.ReachedStates.{table_moves}
use Rattle.kb_fsafile.proofs.reached.WholeMachine.moves.Goals as goal

pub returns : goal.returns
returns c =
    let whole = c.args.self.now in
    let P : Moves → Type 0 = λ moves. AreMovesOf (machine_of whole.table) whole.size c.args.state.now moves in
    subst P (sym (c.in_ok-moves.ensures.items ∙ c.row.ensures.moves))
    (table_moves whole.table whole.size c.args.state.now c.row.ensures.table whole.bounded)
