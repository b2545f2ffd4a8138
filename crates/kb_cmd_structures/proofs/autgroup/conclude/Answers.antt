use Rattle.std.proofs.Common.{sym, subst}
use Rattle.kb_io.specs.Outside.{Outside, outside}
use Rattle.kb_word.specs.Presentations.{PresentationParts}
use Rattle.kb_task.specs.Runs.{IsRun}
use Rattle.kb_task.specs.Stores.{texts_of}
use Rattle.kb_answering.specs.Answers.{AnswersMean}
use Rattle.kb_cmd_structures.specs.Autgroup.{AutgroupMayStore, autgroup_own, autgroup_shows}
use Rattle.kb_cmd_structures.specs.Concluded.{ConcludesAs}
use Rattle.kb_cmd_structures.specs.Given.{AutgroupGiven}
use Rattle.kb_cmd_structures.specs.declared.conclusion.Conclusion.{Conclusion}
use Rattle.kb_cmd_structures.proofs.AutgroupNames.{made_differ, made_may, shows_differ, shows_may}
use Rattle.kb_cmd_structures.proofs.autgroup.conclude.Goals as goal

pub store_and_answer-requires-clause-differ : goal.store_and_answer-requires-clause-differ
store_and_answer-requires-clause-differ g c κs within =
    let given : AutgroupGiven = c.args.task.now in
    let parts : PresentationParts = c.requires.0 in
    let says = subst (λ (it : Conclusion). ConcludesAs given parts it) c.in-Made.is c.requires.1 in
    made_differ says.0

pub store_and_answer-requires-clause-may : goal.store_and_answer-requires-clause-may
store_and_answer-requires-clause-may g c κs within =
    let given : AutgroupGiven = c.args.task.now in
    let parts : PresentationParts = c.requires.0 in
    let says = subst (λ (it : Conclusion). ConcludesAs given parts it) c.in-Made.is c.requires.1 in
    made_may given says.0

pub store_and_answer-requires-clause-own : goal.store_and_answer-requires-clause-own
store_and_answer-requires-clause-own g c κs within =
    let given : AutgroupGiven = c.args.task.now in
    let parts : PresentationParts = c.requires.0 in
    let says = subst (λ (it : Conclusion). ConcludesAs given parts it) c.in-Made.is c.requires.1 in
    let P : PresentationParts → Type 0 = λ p. autgroup_own given p (texts_of c.in-Made.files.items) in
    subst P (sym says.1) says.0

pub store_and_answer-requires-clause-least : goal.store_and_answer-requires-clause-least
store_and_answer-requires-clause-least g c κs within = λ w m least. least

pub show_limit-requires-clause-differ : goal.show_limit-requires-clause-differ
show_limit-requires-clause-differ g c =
    let given : AutgroupGiven = c.args.task.now in
    let parts : PresentationParts = c.requires.0 in
    let says = subst (λ (it : Conclusion). ConcludesAs given parts it) c.in-Limit.is c.requires.1 in
    shows_differ given says

pub show_limit-requires-clause-may : goal.show_limit-requires-clause-may
show_limit-requires-clause-may g c =
    let given : AutgroupGiven = c.args.task.now in
    let parts : PresentationParts = c.requires.0 in
    let says = subst (λ (it : Conclusion). ConcludesAs given parts it) c.in-Limit.is c.requires.1 in
    shows_may given says

pub returns-in-Made : goal.returns-in-Made
returns-in-Made g c = λ parts concludes.
    let given : AutgroupGiven = c.args.task.now in
    let says = subst (λ (it : Conclusion). ConcludesAs given parts it) c.in-Made.is concludes in
    let before : Outside =
    outside (g.F.Shelf.state c.args.shelf.now) (g.I.Source.state c.args.input.now) (g.O.Sink.state c.args.out.now) in
    let after : Outside =
    outside (g.F.Shelf.state c.store_and_answer.new.shelf) (g.I.Source.state c.store_and_answer.new.input)
    (g.O.Sink.state c.store_and_answer.new.out) in
    let P : PresentationParts → Type 0 = λ p.
    IsRun (AnswersMean (autgroup_own given) (autgroup_shows given) p) (AutgroupMayStore given) before after c.store_and_answer.result in
    subst P says.1 c.store_and_answer.ensures

pub returns-in-Limit : goal.returns-in-Limit
returns-in-Limit g c = λ parts concludes.
    c.show_limit.ensures parts (g.I.Source.state c.args.input.now)
    (subst (λ (it : Conclusion). ConcludesAs c.args.task.now parts it) c.in-Limit.is concludes)
