use Rattle.std.proofs.Common.{subst}
use Rattle.kb_auto.specs.Autgroup.{AutgroupSays}
use Rattle.kb_cmd_structures.specs.Given.{AutgroupGiven}
use Rattle.kb_cmd_structures.proofs.autgroup.find.Goals as goal

pub conclusion_of-requires-clause-answer : goal.conclusion_of-requires-clause-answer
conclusion_of-requires-clause-answer g c =
    subst (λ (given : AutgroupGiven). AutgroupSays given.limits given.most c.args.presentation c.in_ok-answer.answer) c.task.view_is
    c.in_ok-answer.ensures
