use Rattle.std.proofs.Common.{subst}
use Rattle.kb_word.specs.Presentations.{parts_of}
use Rattle.kb_system.specs.Logged.{EndsLogged}
use Rattle.kb_cmd_proofs.specs.Given.{KbcertifyGiven}
use Rattle.kb_cmd_proofs.proofs.kbcertify.find.Goals as goal

pub finding_of-requires : goal.finding_of-requires
finding_of-requires g c =
    subst (λ (given : KbcertifyGiven). EndsLogged given.limits (parts_of c.args.presentation) c.in_ok-ending.ending)
    c.task.view_is c.in_ok-ending.ensures
