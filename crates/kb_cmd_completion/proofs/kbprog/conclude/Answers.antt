use Rattle.std.proofs.Common.{sym, subst}
use Rattle.kb_io.specs.Outside.{Outside, outside}
use Rattle.kb_word.specs.Presentations.{PresentationParts, parts_of}
use Rattle.kb_reduced.specs.Reduced.{IsReducedComplete}
use Rattle.kb_system.specs.Completed.{below, relations}
use Rattle.kb_task.specs.Runs.{IsRun}
use Rattle.kb_task.specs.Stores.{texts_of}
use Rattle.kb_answering.specs.Answers.{AnswersMean}
use Rattle.kb_cmd_completion.specs.Conclusions.{ConcludesAs}
use Rattle.kb_cmd_completion.specs.Files.{AreCompleted}
use Rattle.kb_cmd_completion.specs.Given.{KbprogGiven}
use Rattle.kb_cmd_completion.specs.Kbprog.{kbprog_may_store, kbprog_own, kbprog_shows}
use Rattle.kb_cmd_completion.specs.declared.conclusion.Conclusion.{Conclusion}
use Rattle.kb_evidence.proofs.ShownLemmas.{shows_differ}
use Rattle.kb_cmd_completion.proofs.LimitLemmas.{completed_differ, completed_may, shows_may}
use Rattle.kb_cmd_completion.proofs.kbprog.conclude.Goals as goal

pub store_and_answer-requires-clause-differ : goal.store_and_answer-requires-clause-differ
store_and_answer-requires-clause-differ g c κs within =
    let given : KbprogGiven = c.args.task.now in
    let parts : PresentationParts = c.requires.0 in
    let says = subst (λ (it : Conclusion). ConcludesAs given parts it) c.in-Completed.is c.requires.1 in
    completed_differ given.limits given.file parts (texts_of c.in-Completed.files.items) says.0

pub store_and_answer-requires-clause-may : goal.store_and_answer-requires-clause-may
store_and_answer-requires-clause-may g c κs within =
    let given : KbprogGiven = c.args.task.now in
    let parts : PresentationParts = c.requires.0 in
    let says = subst (λ (it : Conclusion). ConcludesAs given parts it) c.in-Completed.is c.requires.1 in
    completed_may given parts (texts_of c.in-Completed.files.items) says.0

pub store_and_answer-requires-clause-own : goal.store_and_answer-requires-clause-own
store_and_answer-requires-clause-own g c κs within =
    let given : KbprogGiven = c.args.task.now in
    let parts : PresentationParts = c.requires.0 in
    let says = subst (λ (it : Conclusion). ConcludesAs given parts it) c.in-Completed.is c.requires.1 in
    let P : PresentationParts → Type 0 = λ p. AreCompleted given.limits given.file p (texts_of c.in-Completed.files.items) in
    subst P (sym says.1) says.0

pub store_and_answer-requires-clause-least : goal.store_and_answer-requires-clause-least
store_and_answer-requires-clause-least g c κs within = λ w m normal.
    let given : KbprogGiven = c.args.task.now in
    let parts : PresentationParts = c.requires.0 in
    let own : PresentationParts = parts_of c.in-Completed.normal_forms.reader.presentation in
    let rules = c.in-Completed.normal_forms.index.rules in
    let says = subst (λ (it : Conclusion). ConcludesAs given parts it) c.in-Completed.is c.requires.1 in
    let P : PresentationParts → Type 0 = λ p. IsReducedComplete (below p) (relations p) rules in
    c.reduced_complete_systems_are_complete.ensures.least own.order (relations own) rules w m (subst P (sym says.1) says.2) normal

pub show_limit-requires-clause-differ : goal.show_limit-requires-clause-differ
show_limit-requires-clause-differ g c =
    let given : KbprogGiven = c.args.task.now in
    let parts : PresentationParts = c.requires.0 in
    let shown = c.in-Limit.evidence in
    let says = subst (λ (it : Conclusion). ConcludesAs given parts it) c.in-Limit.is c.requires.1 in
    shows_differ given.limits given.file parts shown.limit (texts_of shown.files.items) shown.line.items says

pub show_limit-requires-clause-may : goal.show_limit-requires-clause-may
show_limit-requires-clause-may g c =
    let given : KbprogGiven = c.args.task.now in
    let parts : PresentationParts = c.requires.0 in
    let shown = c.in-Limit.evidence in
    let says = subst (λ (it : Conclusion). ConcludesAs given parts it) c.in-Limit.is c.requires.1 in
    shows_may given parts shown.limit (texts_of shown.files.items) shown.line.items says

pub returns-in-Completed : goal.returns-in-Completed
returns-in-Completed g c = λ parts concludes.
    let given : KbprogGiven = c.args.task.now in
    let says = subst (λ (it : Conclusion). ConcludesAs given parts it) c.in-Completed.is concludes in
    let before : Outside =
    outside (g.F.Shelf.state c.args.shelf.now) (g.I.Source.state c.args.input.now) (g.O.Sink.state c.args.out.now) in
    let after : Outside =
    outside (g.F.Shelf.state c.store_and_answer.new.shelf) (g.I.Source.state c.store_and_answer.new.input)
    (g.O.Sink.state c.store_and_answer.new.out) in
    let P : PresentationParts → Type 0 = λ p. IsRun (AnswersMean (kbprog_own given) (kbprog_shows given) p) (kbprog_may_store given)
    before after c.store_and_answer.result in
    subst P says.1 c.store_and_answer.ensures

pub returns-in-Limit : goal.returns-in-Limit
returns-in-Limit g c = λ parts concludes.
    c.show_limit.ensures parts (g.I.Source.state c.args.input.now)
    (subst (λ (it : Conclusion). ConcludesAs c.args.task.now parts it) c.in-Limit.is concludes)
