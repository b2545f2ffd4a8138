use Rattle.std.proofs.Common.{◌<◌, ◌≤◌, List, [], Vec, Global, length, replicate, sym, subst}
use Rattle.std.specs.List.{All}
use Rattle.std.proofs.lemmas.Result.{IfOk-weaker}
use Rattle.kb_fsa.specs.Table.{Moves}
use Rattle.kb_fsarat.specs.Layers.{AreTurned}
use Rattle.kb_fsarat.specs.Reversal.{HaveAdded, TurnsFirst}
use Rattle.kb_fsarat.proofs.Reversing.{targets_are_states, rows_turned}
use Rattle.kb_fsarat.proofs.layers.reversed_once.Goals as goal

pub reversed_rows-requires-clause-targets : goal.reversed_rows-requires-clause-targets
reversed_rows-requires-clause-targets c =
    let P : List Moves → Type 0 = λ rows. All (All (λ move. (0 < move.1) × (move.1 ≤ length rows))) rows in
    subst P (sym c.rows.ensures.rows) (targets_are_states c.args.table.now c.requires.table)

pub returns-in-None : goal.returns-in-None
returns-in-None c =
    let table = c.args.table.now in
    let Added : List Moves → List Moves → Type 0 = λ rows turned. HaveAdded (replicate (length rows) []) turned (TurnsFirst rows (length rows)) in
    IfOk-weaker c.reversed_rows.result (λ (turned : Vec Moves Global). Added c.rows.result.now turned.items)
    (λ (turned : Vec Moves Global). AreTurned table turned.items)
    (λ turned added.
    rows_turned table turned.items c.requires.table (subst (λ (rows : List Moves). Added rows turned.items) c.rows.ensures.rows added))
    c.reversed_rows.ensures
