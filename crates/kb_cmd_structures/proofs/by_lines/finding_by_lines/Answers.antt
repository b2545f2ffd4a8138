use Rattle.std.proofs.Common.{ap}
use Rattle.kb_task.proofs.RunLemmas.{if_ok}
use Rattle.kb_cmd_structures.specs.Given.{CheckGiven}
use Rattle.kb_cmd_structures.proofs.LinesLemmas.{lines-own, lines-refuted, lines-too_many, lines-unresolved}
use Rattle.kb_cmd_structures.proofs.by_lines.finding_by_lines.Goals as goal

pub returns-in-Yes : goal.returns-in-Yes
returns-in-Yes c =
    if_ok c.own.result c.own.ensures
    (λ finding parts log acceptor multipliers says.
    lines-own c.args.task.now c.args.presentation.now log acceptor multipliers finding parts (rw c.in-Yes.is at says))

pub returns-in-No : goal.returns-in-No
returns-in-No c =
    if_ok c.refuted.result c.refuted.ensures
    (λ finding parts log acceptor multipliers says.
    lines-refuted c.args.task.now c.args.presentation.now log acceptor multipliers finding c.in-No.cert parts (rw c.in-No.is at says))

pub returns-in-TooManyStates : goal.returns-in-TooManyStates
returns-in-TooManyStates c =
    if_ok c.too_many.result c.too_many.ensures
    (λ finding parts log acceptor multipliers says.
    lines-too_many c.args.task.now c.args.presentation.now log acceptor multipliers finding c.in-TooManyStates.which parts
    (rw c.in-TooManyStates.is at says))

pub returns-in-Unresolved : goal.returns-in-Unresolved
returns-in-Unresolved c =
    if_ok c.unresolved.result c.unresolved.ensures
    (λ finding parts log acceptor multipliers says.
    lines-unresolved c.args.task.now c.args.presentation.now log acceptor multipliers finding c.in-Unresolved.x c.in-Unresolved.state
    c.in-Unresolved.label c.in-Unresolved.other c.task.inside.file (ap (λ (given : CheckGiven). given.file) c.task.view_is) parts
    (rw c.in-Unresolved.is at says))
