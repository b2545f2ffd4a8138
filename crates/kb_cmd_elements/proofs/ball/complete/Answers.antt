use Rattle.std.proofs.Common.{subst}
use Rattle.kb_word.specs.Presentations.{parts_of}
use Rattle.kb_system.specs.Ended.{EndsAs}
use Rattle.kb_cmd_elements.specs.Given.{BallGiven}
use Rattle.kb_cmd_elements.proofs.ball.complete.Goals as goal

pub outcome_of-requires : goal.outcome_of-requires
outcome_of-requires g c =
    subst (λ (given : BallGiven). EndsAs given.limits (parts_of c.args.presentation) c.in_ok-ending.ending) c.task.view_is
    c.in_ok-ending.ensures
