use Rattle.std.proofs.Common.{◌≡◌, ◌∙◌, inl, ℕ, List, ap, subst}
use Rattle.kb_io.specs.Outside.{Outside, outside}
use Rattle.kb_io.specs.States.{ShelfState, SourceState, SinkState}
use Rattle.kb_word.specs.Presentations.{PresentationParts, parts_of}
use Rattle.kb_task.specs.Loads.{EndsAtLoad}
use Rattle.kb_task.specs.Presentations.{HoldsPresentation}
use Rattle.kb_task.specs.Subgroups.{IsMarkableFault}
use Rattle.kb_task.proofs.RunLemmas.{unchanged-loads, run-ends}
use Rattle.kb_cmd_elements.specs.Given.{KbcosGiven}
use Rattle.kb_cmd_elements.proofs.KbcosRuns.{held_markable, run-held, run-unloaded}
use Rattle.kb_cmd_elements.proofs.kbcos.Kbcos.run.Goals as goal

pub returns-in_default : goal.returns-in_default
returns-in_default g c =
    run-unloaded c.args.self (g.F.Shelf.state c.args.shelf.now) (g.I.Source.state c.args.input.now) (g.O.Sink.state c.args.out.now)

pub returns-in-Ok-load_markable : goal.returns-in-Ok-load_markable
returns-in-Ok-load_markable g c =
    let given : KbcosGiven = c.args.self in
    let shelf : ShelfState = g.F.Shelf.state c.args.shelf.now in
    let loaded : ShelfState = g.F.Shelf.state c.load_markable.new.shelf in
    let input : SourceState = g.I.Source.state c.args.input.now in
    let output : SinkState = g.O.Sink.state c.args.out.now in
    let after : Outside =
    outside (g.F.Shelf.state c.run_in_group.new.shelf) (g.I.Source.state c.run_in_group.new.input) (g.O.Sink.state c.run_in_group.new.out) in
    let presentation = c.in-Ok-load_markable.presentation in
    let parts : PresentationParts = parts_of presentation in
    let loads = c.in-Ok-load_markable.ensures in
    let file : c.in-Ok.file ≡ given.file = c.in-Ok.ensures ∙ ap (λ (it : KbcosGiven). it.file) c.self.view_is in
    run-held given parts shelf loaded input output c.load_markable.ensures.only_loads after c.run_in_group.result
    (λ told. held_markable shelf.holds given.file presentation
    (subst (λ (name : List ℕ). HoldsPresentation shelf.holds name parts) file (loads.holds told)) loads.shortlex loads.group loads.room loads.free)
    c.run_in_group.ensures

pub returns : goal.returns
returns g c =
    let shelf : ShelfState = g.F.Shelf.state c.args.shelf.now in
    let loaded : ShelfState = g.F.Shelf.state c.load_markable.new.shelf in
    let input : SourceState = g.I.Source.state c.args.input.now in
    let output : SinkState = g.O.Sink.state c.args.out.now in
    let loads = c.load_markable.ensures.only_loads in
    let file : c.in-Ok.file ≡ c.args.self.file = c.in-Ok.ensures ∙ ap (λ (it : KbcosGiven). it.file) c.self.view_is in
    run-ends shelf loaded input output loads c.in-Err.status (c.in-Err.ensures.fault input output)
    (λ told. inl (
      subst (λ (name : List ℕ). EndsAtLoad (IsMarkableFault shelf.holds name) name c.in-Err.status) file (c.in-Err.ensures.ends told.shelf),
      unchanged-loads shelf loaded input output loads,
    ))
