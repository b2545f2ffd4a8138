use Rattle.std.proofs.Common.{◌≡◌, ◌∙◌, List, ℕ, ap, subst}
use Rattle.kb_io.specs.Outside.{Outside, outside}
use Rattle.kb_io.specs.States.{ShelfState, SourceState, SinkState}
use Rattle.kb_word.specs.Presentations.{PresentationParts, parts_of}
use Rattle.kb_task.specs.Loads.{EndsAtLoad}
use Rattle.kb_task.specs.Presentations.{HoldsPresentation, IsGroupFault}
use Rattle.kb_task.specs.declared.status.Status.TheVariants.{Memory}
use Rattle.kb_task.proofs.LoadLemmas.{holds_group}
use Rattle.kb_answering.proofs.LoadedRuns.{nothing-run}
use Rattle.kb_cmd_structures.specs.Autgroup.{autgroup_own, autgroup_shows}
use Rattle.kb_cmd_structures.specs.Given.{AutgroupGiven}
use Rattle.kb_cmd_structures.proofs.AutgroupRuns.{run-at_group, run-held, run-unloaded}
use Rattle.kb_cmd_structures.proofs.autgroup.Autgroup.run.Goals as goal

pub returns-in_default : goal.returns-in_default
returns-in_default g c =
    run-unloaded c.args.self (g.F.Shelf.state c.args.shelf.now) (g.I.Source.state c.args.input.now) (g.O.Sink.state c.args.out.now)

pub conclude-requires : goal.conclude-requires
conclude-requires g c =
    let bounds = c.type_bounds in
    (bounds.sync-T, (bounds.sync-G, (parts_of c.in-Ok-load_group.presentation, c.in-Ok-find.ensures)))

pub returns-in-Ok-find : goal.returns-in-Ok-find
returns-in-Ok-find g c =
    let given : AutgroupGiven = c.args.self in
    let shelf : ShelfState = g.F.Shelf.state c.args.shelf.now in
    let read : ShelfState = g.F.Shelf.state c.load_group.new.shelf in
    let input : SourceState = g.I.Source.state c.args.input.now in
    let output : SinkState = g.O.Sink.state c.args.out.now in
    let after : Outside =
    outside (g.F.Shelf.state c.conclude.new.shelf) (g.I.Source.state c.conclude.new.input) (g.O.Sink.state c.conclude.new.out) in
    let parts : PresentationParts = parts_of c.in-Ok-load_group.presentation in
    let file : c.in-Ok.file ≡ given.file = c.in-Ok.ensures ∙ ap (λ (it : AutgroupGiven). it.file) c.self.view_is in
    run-held given shelf read input output c.load_group.ensures.only_loads parts after c.conclude.result
    (λ told. holds_group shelf.holds given.file c.in-Ok-load_group.presentation
    (subst (λ (name : List ℕ). HoldsPresentation shelf.holds name parts) file (c.in-Ok-load_group.ensures.holds told))
    c.in-Ok-load_group.ensures.shortlex c.in-Ok-load_group.ensures.group)
    (c.conclude.ensures parts c.in-Ok-find.ensures)

pub returns-in-Ok-load_group : goal.returns-in-Ok-load_group
returns-in-Ok-load_group g c =
    let given : AutgroupGiven = c.args.self in
    let shelf : ShelfState = g.F.Shelf.state c.args.shelf.now in
    let read : ShelfState = g.F.Shelf.state c.load_group.new.shelf in
    let input : SourceState = g.I.Source.state c.args.input.now in
    let output : SinkState = g.O.Sink.state c.args.out.now in
    let parts : PresentationParts = parts_of c.in-Ok-load_group.presentation in
    let file : c.in-Ok.file ≡ given.file = c.in-Ok.ensures ∙ ap (λ (it : AutgroupGiven). it.file) c.self.view_is in
    run-held given shelf read input output c.load_group.ensures.only_loads parts (outside read input output) Memory
    (λ told. holds_group shelf.holds given.file c.in-Ok-load_group.presentation
    (subst (λ (name : List ℕ). HoldsPresentation shelf.holds name parts) file (c.in-Ok-load_group.ensures.holds told))
    c.in-Ok-load_group.ensures.shortlex c.in-Ok-load_group.ensures.group)
    (nothing-run (autgroup_own given) (autgroup_shows given) parts read input output)

pub returns : goal.returns
returns g c =
    let given : AutgroupGiven = c.args.self in
    let shelf : ShelfState = g.F.Shelf.state c.args.shelf.now in
    let read : ShelfState = g.F.Shelf.state c.load_group.new.shelf in
    let input : SourceState = g.I.Source.state c.args.input.now in
    let output : SinkState = g.O.Sink.state c.args.out.now in
    let file : c.in-Ok.file ≡ given.file = c.in-Ok.ensures ∙ ap (λ (it : AutgroupGiven). it.file) c.self.view_is in
    run-at_group given shelf read input output c.load_group.ensures.only_loads c.in-Err.status
    (λ told. subst (λ (name : List ℕ). EndsAtLoad (IsGroupFault shelf.holds name) name c.in-Err.status) file (c.in-Err.ensures.ends told))
    (c.in-Err.ensures.fault input output)
