use Rattle.std.proofs.Common.{◌≡◌, refl, ap, subst}
use Rattle.kb_word.specs.Presentations.{PresentationParts, parts_of}
use Rattle.kb_system.specs.Ended.{EndsAs}
use Rattle.kb_system.specs.declared.ending.Ending.{Ending}
use Rattle.kb_evidence.proofs.ShownLemmas.{shown-halted, shown-too_large}
use Rattle.kb_cmd_elements.specs.Given.{BallGiven}
use Rattle.kb_cmd_elements.proofs.outcome.outcome_of.Goals as goal

pub returns-in-Completed : goal.returns-in-Completed
returns-in-Completed c =
    let parts : PresentationParts = parts_of c.args.presentation in
    let ends = subst (λ (e : Ending). EndsAs c.args.task.now.limits parts e) c.in-Completed.is c.requires in
    (c.in-Completed.rules.rules, refl, ends.1)

pub returns-in_ok-halted-in-Halted : goal.returns-in_ok-halted-in-Halted
returns-in_ok-halted-in-Halted c =
    let given : BallGiven = c.args.task.now in
    let parts : PresentationParts = parts_of c.args.presentation in
    let at = c.in-Halted in
    let ends = subst (λ (e : Ending). EndsAs given.limits parts e) at.is c.requires in
    let file : c.task.inside.file ≡ given.file = ap (λ (it : BallGiven). it.file) c.task.view_is in
    shown-halted given.limits given.file parts c.task.inside.file file c.in_ok-halted-in-Halted.field-0 at.shown.lines.items at.shown.waiting
    at.shown.rules.rules at.shown.reached ends.1 c.in_ok-halted-in-Halted.ensures

pub returns-in_ok-too_large-in-TooLarge : goal.returns-in_ok-too_large-in-TooLarge
returns-in_ok-too_large-in-TooLarge c =
    let given : BallGiven = c.args.task.now in
    let parts : PresentationParts = parts_of c.args.presentation in
    let at = c.in-TooLarge in
    let ends = subst (λ (e : Ending). EndsAs given.limits parts e) at.is c.requires in
    let file : c.task.inside.file ≡ given.file = ap (λ (it : BallGiven). it.file) c.task.view_is in
    shown-too_large given.limits given.file parts c.task.inside.file file c.in_ok-too_large-in-TooLarge.field-0 at.lines.items at.rules.rules
    ends.1 c.in_ok-too_large-in-TooLarge.ensures
