use Rattle.std.proofs.Common.{◌≡◌, ◌∙◌, inl, ℕ, List, ap, subst}
use Rattle.kb_io.specs.Outside.{Outside, outside}
use Rattle.kb_io.specs.States.{ShelfState, SourceState, SinkState}
use Rattle.kb_word.specs.Presentations.{PresentationParts, parts_of}
use Rattle.kb_task.specs.Loads.{EndsAtLoad}
use Rattle.kb_task.specs.Presentations.{HoldsPresentation, IsPresentationFault}
use Rattle.kb_task.specs.declared.status.Status.TheVariants.{Memory}
use Rattle.kb_task.proofs.RunLemmas.{unchanged-loads, run-ends}
use Rattle.kb_answering.proofs.LoadedRuns.{nothing-run}
use Rattle.kb_cmd_completion.specs.Given.{KbprogGiven}
use Rattle.kb_cmd_completion.specs.Kbprog.{kbprog_own, kbprog_shows}
use Rattle.kb_cmd_completion.proofs.RunLemmas.{run-held, run-unloaded}
use Rattle.kb_cmd_completion.proofs.kbprog.Kbprog.run.Goals as goal

pub returns-in_default : goal.returns-in_default
returns-in_default g c =
    run-unloaded c.args.self (g.F.Shelf.state c.args.shelf.now) (g.I.Source.state c.args.input.now) (g.O.Sink.state c.args.out.now)

pub conclude-requires : goal.conclude-requires
conclude-requires g c =
    let bounds = c.type_bounds in
    (bounds.sync-T, (bounds.sync-G, (parts_of c.in-Ok-load_presentation.presentation, c.in-Ok-complete.ensures)))

pub returns-in-Ok-complete : goal.returns-in-Ok-complete
returns-in-Ok-complete g c =
    let given : KbprogGiven = c.args.self in
    let shelf : ShelfState = g.F.Shelf.state c.args.shelf.now in
    let loaded : ShelfState = g.F.Shelf.state c.load_presentation.new.shelf in
    let input : SourceState = g.I.Source.state c.args.input.now in
    let output : SinkState = g.O.Sink.state c.args.out.now in
    let after : Outside =
    outside (g.F.Shelf.state c.conclude.new.shelf) (g.I.Source.state c.conclude.new.input) (g.O.Sink.state c.conclude.new.out) in
    let parts : PresentationParts = parts_of c.in-Ok-load_presentation.presentation in
    let loads = c.load_presentation.ensures.only_loads in
    let file : c.in-Ok.file ≡ given.file = c.in-Ok.ensures ∙ ap (λ (it : KbprogGiven). it.file) c.self.view_is in
    run-held given parts shelf loaded input output loads after c.conclude.result
    (λ told. subst (λ (name : List ℕ). HoldsPresentation shelf.holds name parts) file (c.in-Ok-load_presentation.ensures.holds told))
    (c.conclude.ensures parts c.in-Ok-complete.ensures)

pub returns-in-Ok-load_presentation : goal.returns-in-Ok-load_presentation
returns-in-Ok-load_presentation g c =
    let given : KbprogGiven = c.args.self in
    let shelf : ShelfState = g.F.Shelf.state c.args.shelf.now in
    let loaded : ShelfState = g.F.Shelf.state c.load_presentation.new.shelf in
    let input : SourceState = g.I.Source.state c.args.input.now in
    let output : SinkState = g.O.Sink.state c.args.out.now in
    let parts : PresentationParts = parts_of c.in-Ok-load_presentation.presentation in
    let loads = c.load_presentation.ensures.only_loads in
    let file : c.in-Ok.file ≡ given.file = c.in-Ok.ensures ∙ ap (λ (it : KbprogGiven). it.file) c.self.view_is in
    run-held given parts shelf loaded input output loads (outside loaded input output) Memory
    (λ told. subst (λ (name : List ℕ). HoldsPresentation shelf.holds name parts) file (c.in-Ok-load_presentation.ensures.holds told))
    (nothing-run (kbprog_own given) (kbprog_shows given) parts loaded input output)

pub returns : goal.returns
returns g c =
    let shelf : ShelfState = g.F.Shelf.state c.args.shelf.now in
    let loaded : ShelfState = g.F.Shelf.state c.load_presentation.new.shelf in
    let input : SourceState = g.I.Source.state c.args.input.now in
    let output : SinkState = g.O.Sink.state c.args.out.now in
    let loads = c.load_presentation.ensures.only_loads in
    let file : c.in-Ok.file ≡ c.args.self.file = c.in-Ok.ensures ∙ ap (λ (it : KbprogGiven). it.file) c.self.view_is in
    run-ends shelf loaded input output loads c.in-Err.status (c.in-Err.ensures.fault input output)
    (λ told. inl (
      subst (λ (name : List ℕ). EndsAtLoad (IsPresentationFault shelf.holds name) name c.in-Err.status) file (c.in-Err.ensures.ends told.shelf),
      unchanged-loads shelf loaded input output loads,
    ))
