use Rattle.std.proofs.Common.{◌≡◌, ◌∙◌, inl, ℕ, List, ap, subst}
use Rattle.kb_io.specs.Outside.{Outside, outside}
use Rattle.kb_io.specs.States.{ShelfState, SourceState, SinkState}
use Rattle.kb_word.specs.Presentations.{PresentationParts, parts_of}
use Rattle.kb_task.specs.Loads.{EndsAtLoad}
use Rattle.kb_task.specs.Presentations.{HoldsPresentation, IsShortlexFault}
use Rattle.kb_task.specs.declared.status.Status.TheVariants.{Memory}
use Rattle.kb_task.proofs.RunLemmas.{unchanged-loads, run-ends}
use Rattle.kb_cmd_elements.specs.Given.{BallGiven}
use Rattle.kb_cmd_elements.proofs.RunLemmas.{run-held, run-nothing, run-unloaded}
use Rattle.kb_cmd_elements.proofs.ball.Ball.run.Goals as goal

pub returns-in_default : goal.returns-in_default
returns-in_default g c =
    run-unloaded c.args.self (g.F.Shelf.state c.args.shelf.now) (g.I.Source.state c.args.input.now) (g.O.Sink.state c.args.out.now)

pub conclude-requires : goal.conclude-requires
conclude-requires g c = (parts_of c.in-Ok-load_shortlex.presentation, c.in-Ok-complete.ensures)

pub returns-in-Ok-complete : goal.returns-in-Ok-complete
returns-in-Ok-complete g c =
    let given : BallGiven = c.args.self in
    let shelf : ShelfState = g.F.Shelf.state c.args.shelf.now in
    let loaded : ShelfState = g.F.Shelf.state c.load_shortlex.new.shelf in
    let input : SourceState = g.I.Source.state c.args.input.now in
    let output : SinkState = g.O.Sink.state c.args.out.now in
    let after : Outside = outside (g.F.Shelf.state c.conclude.new.shelf) input (g.O.Sink.state c.conclude.new.out) in
    let parts : PresentationParts = parts_of c.in-Ok-load_shortlex.presentation in
    let file : c.in-Ok.file ≡ given.file = c.in-Ok.ensures ∙ ap (λ (it : BallGiven). it.file) c.self.view_is in
    run-held given parts shelf loaded input output c.load_shortlex.ensures.only_loads after c.conclude.result
    (λ told. subst (λ (name : List ℕ). HoldsPresentation shelf.holds name parts) file (c.in-Ok-load_shortlex.ensures.holds told))
    c.in-Ok-load_shortlex.ensures.shortlex
    (c.conclude.ensures parts input c.in-Ok-load_shortlex.ensures.shortlex c.in-Ok-complete.ensures)

pub returns-in-Ok-load_shortlex : goal.returns-in-Ok-load_shortlex
returns-in-Ok-load_shortlex g c =
    let given : BallGiven = c.args.self in
    let shelf : ShelfState = g.F.Shelf.state c.args.shelf.now in
    let loaded : ShelfState = g.F.Shelf.state c.load_shortlex.new.shelf in
    let input : SourceState = g.I.Source.state c.args.input.now in
    let output : SinkState = g.O.Sink.state c.args.out.now in
    let parts : PresentationParts = parts_of c.in-Ok-load_shortlex.presentation in
    let file : c.in-Ok.file ≡ given.file = c.in-Ok.ensures ∙ ap (λ (it : BallGiven). it.file) c.self.view_is in
    run-held given parts shelf loaded input output c.load_shortlex.ensures.only_loads (outside loaded input output) Memory
    (λ told. subst (λ (name : List ℕ). HoldsPresentation shelf.holds name parts) file (c.in-Ok-load_shortlex.ensures.holds told))
    c.in-Ok-load_shortlex.ensures.shortlex (run-nothing given parts loaded input output)

pub returns : goal.returns
returns g c =
    let shelf : ShelfState = g.F.Shelf.state c.args.shelf.now in
    let loaded : ShelfState = g.F.Shelf.state c.load_shortlex.new.shelf in
    let input : SourceState = g.I.Source.state c.args.input.now in
    let output : SinkState = g.O.Sink.state c.args.out.now in
    let loads = c.load_shortlex.ensures.only_loads in
    let file : c.in-Ok.file ≡ c.args.self.file = c.in-Ok.ensures ∙ ap (λ (it : BallGiven). it.file) c.self.view_is in
    run-ends shelf loaded input output loads c.in-Err.status (c.in-Err.ensures.fault input output)
    (λ told. inl (
      subst (λ (name : List ℕ). EndsAtLoad (IsShortlexFault shelf.holds name) name c.in-Err.status) file (c.in-Err.ensures.ends told.shelf),
      unchanged-loads shelf loaded input output loads,
    ))
