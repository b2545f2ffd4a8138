use Rattle.std.proofs.Common.{subst}
use Rattle.kb_word.specs.Presentations.{PresentationParts, parts_of}
use Rattle.kb_system.specs.Logged.{EndsLogged}
use Rattle.kb_system.specs.declared.logged.LoggedEnding.{LoggedEnding}
use Rattle.kb_cmd_proofs.proofs.certificate.finding_of.Goals as goal

pub completed-requires-clause-certificate : goal.completed-requires-clause-certificate
completed-requires-clause-certificate c =
    let parts : PresentationParts = parts_of c.args.presentation.now in
    let ends = subst (λ (e : LoggedEnding). EndsLogged c.args.task.now.limits parts e) c.in-Completed.is c.requires in
    ends.1

pub completed-requires-clause-completion : goal.completed-requires-clause-completion
completed-requires-clause-completion c =
    let parts : PresentationParts = parts_of c.args.presentation.now in
    let ends = subst (λ (e : LoggedEnding). EndsLogged c.args.task.now.limits parts e) c.in-Completed.is c.requires in
    ends.2

pub halted_finding-requires : goal.halted_finding-requires
halted_finding-requires c =
    let parts : PresentationParts = parts_of c.args.presentation.now in
    subst (λ (e : LoggedEnding). EndsLogged c.args.task.now.limits parts e) c.in-Halted.is c.requires

pub too_large_finding-requires : goal.too_large_finding-requires
too_large_finding-requires c =
    let parts : PresentationParts = parts_of c.args.presentation.now in
    let ends = subst (λ (e : LoggedEnding). EndsLogged c.args.task.now.limits parts e) c.in-TooLarge.is c.requires in
    ends.1
