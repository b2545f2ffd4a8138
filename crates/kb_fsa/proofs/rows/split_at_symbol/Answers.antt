use Rattle.kb_fsa.proofs.RowSplits.{split_here, split_later, split_nil}
use Rattle.kb_fsa.proofs.rows.split_at_symbol.Goals as goal
use Rattle.kb_fsa.proofs.rows.split_at_symbol.Goals.{in_default-via-in-Some+else-least-symbol, in_default-via-in_default}

pub returns-in-Some : goal.returns-in-Some
returns-in-Some c =
    split_here c.args.moves.now c.args.symbol c.in-Some.least.now c.in-Some.rest.now c.in-Some.ensures.cases.0 c.if-least-symbol.true

pub returns-in_default : goal.returns-in_default
returns-in_default c =
    elim c.in_default.branch [
      | in_default-via-in-Some+else-least-symbol w ↦
          split_later c.args.moves.now c.args.symbol w.in-Some.least.now w.in-Some.rest.now c.requires.row c.requires.low
          w.in-Some.ensures.cases.0 w.if-least-symbol.false
      | in_default-via-in_default w ↦ split_nil c.args.moves.now c.args.symbol w.in_default.ensures.cases
    ]
