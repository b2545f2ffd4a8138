use Rattle.std.proofs.Common.{◌≡◌, ap, subst}
use Rattle.kb_io.specs.Outside.{Outside, outside}
use Rattle.kb_io.specs.States.{ShelfState}
use Rattle.kb_word.specs.Presentations.{PresentationParts}
use Rattle.kb_system.specs.Completed.{relations}
use Rattle.kb_task.specs.Stores.{texts_of}
use Rattle.kb_evidence.proofs.ShownLemmas.{shows_differ}
use Rattle.kb_listing.specs.Asked.{WordsArePrinted}
use Rattle.kb_cmd_elements.specs.Given.{BallGiven}
use Rattle.kb_cmd_elements.specs.Outcomes.{ComesTo}
use Rattle.kb_cmd_elements.specs.declared.outcome.Outcome.{Outcome}
use Rattle.kb_cmd_elements.proofs.RunLemmas.{run-printed, run-shown, shows_may}
use Rattle.kb_cmd_elements.proofs.ball.conclude.Goals as goal

pub list_words-requires : goal.list_words-requires
list_words-requires g c =
    let parts : PresentationParts = c.requires.0 in
    let says = subst (λ (it : Outcome). ComesTo c.args.task.now parts it) c.in-Completed.is c.requires.1 in
    (_, says.2.completion.acceptor.alphabet)

pub show_limit-requires-clause-differ : goal.show_limit-requires-clause-differ
show_limit-requires-clause-differ g c =
    let given : BallGiven = c.args.task.now in
    let parts : PresentationParts = c.requires.0 in
    let shown = c.in-Limit.evidence in
    let says = subst (λ (it : Outcome). ComesTo given parts it) c.in-Limit.is c.requires.1 in
    shows_differ given.limits given.file parts shown.limit (texts_of shown.files.items) shown.line.items says

pub show_limit-requires-clause-may : goal.show_limit-requires-clause-may
show_limit-requires-clause-may g c =
    let given : BallGiven = c.args.task.now in
    let parts : PresentationParts = c.requires.0 in
    let shown = c.in-Limit.evidence in
    let says = subst (λ (it : Outcome). ComesTo given parts it) c.in-Limit.is c.requires.1 in
    shows_may given parts shown.limit (texts_of shown.files.items) shown.line.items says

pub returns-in-Completed : goal.returns-in-Completed
returns-in-Completed g c = λ parts input shortlex comes.
    let given : BallGiven = c.args.task.now in
    let says = subst (λ (it : Outcome). ComesTo given parts it) c.in-Completed.is comes in
    let shelf : ShelfState = g.F.Shelf.state c.args.shelf.now in
    let before = g.O.Sink.state c.args.out.now in
    let after = g.O.Sink.state c.list_words.new.out in
    let radius : c.task.inside.radius ≡ given.radius = ap (λ (it : BallGiven). it.radius) c.task.view_is in
    let law = c.reduced_complete_systems_are_complete.ensures in
    run-printed given c.in-Completed.presentation parts says.1 says.0 c.in-Completed.acceptor says.2
    (law.complete parts.order (relations parts) says.0 says.2.completion.reduced)
    (λ w m normal. law.least parts.order (relations parts) says.0 w m says.2.completion.reduced normal) shortlex shelf input before after
    c.list_words.result
    (λ told. subst (λ r. WordsArePrinted c.in-Completed.presentation.names c.in-Completed.acceptor 0 r before.written after.written c.list_words.result) radius
    (c.list_words.ensures.printed told))
    c.list_words.ensures.goes_on (c.list_words.ensures.fault shelf input)

pub returns-in-Limit : goal.returns-in-Limit
returns-in-Limit g c = λ parts input shortlex comes.
    let given : BallGiven = c.args.task.now in
    let before : Outside = outside (g.F.Shelf.state c.args.shelf.now) input (g.O.Sink.state c.args.out.now) in
    let after : Outside = outside (g.F.Shelf.state c.show_limit.new.shelf) input (g.O.Sink.state c.show_limit.new.out) in
    run-shown given parts before after c.show_limit.result
    (c.show_limit.ensures parts input (subst (λ (it : Outcome). ComesTo given parts it) c.in-Limit.is comes))
