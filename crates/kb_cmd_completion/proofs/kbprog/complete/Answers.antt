use Rattle.std.proofs.Common.{subst}
use Rattle.kb_word.specs.Presentations.{parts_of}
use Rattle.kb_system.specs.Ended.{EndsAs}
use Rattle.kb_cmd_completion.specs.Given.{KbprogGiven}
use Rattle.kb_cmd_completion.proofs.kbprog.complete.Goals as goal

pub conclusion_of-requires : goal.conclusion_of-requires
conclusion_of-requires g c =
    subst (λ (given : KbprogGiven). EndsAs given.limits (parts_of c.args.presentation) c.in_ok-ending.ending) c.task.view_is
    c.in_ok-ending.ensures
