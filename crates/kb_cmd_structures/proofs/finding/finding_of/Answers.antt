use Rattle.std.proofs.Common.{ap}
use Rattle.kb_cmd_structures.specs.Given.{CheckGiven}
use Rattle.kb_task.proofs.RunLemmas.{if_ok}
use Rattle.kb_cmd_structures.proofs.FindingLemmas.{found-own, found-refuted, found-too_many, found-unsettled}
use Rattle.kb_cmd_structures.proofs.finding.finding_of.Goals as goal

pub returns-in-Yes : goal.returns-in-Yes
returns-in-Yes c =
    if_ok c.own.result c.own.ensures
    (λ finding parts acceptor multipliers says.
    found-own c.args.task.now c.args.presentation.now acceptor multipliers finding parts (rw c.in-Yes.is at says))

pub returns-in-No : goal.returns-in-No
returns-in-No c =
    if_ok c.refuted.result c.refuted.ensures
    (λ finding parts acceptor multipliers says.
    found-refuted c.args.task.now c.args.presentation.now acceptor multipliers finding c.in-No.cert parts (rw c.in-No.is at says))

pub returns-in-TooManyStates : goal.returns-in-TooManyStates
returns-in-TooManyStates c =
    if_ok c.too_many.result c.too_many.ensures
    (λ finding parts acceptor multipliers says.
    found-too_many c.args.task.now c.args.presentation.now acceptor multipliers finding c.in-TooManyStates.which parts
    (rw c.in-TooManyStates.is at says))

pub returns-in-Halted : goal.returns-in-Halted
returns-in-Halted c =
    if_ok c.unsettled.result c.unsettled.ensures
    (λ finding parts acceptor multipliers says.
    found-unsettled c.args.task.now c.args.presentation.now acceptor multipliers finding c.in-Halted.halted c.task.inside.file
    (ap (λ (given : CheckGiven). given.file) c.task.view_is) parts (rw c.in-Halted.is at says))
