use Rattle.std.proofs.Common.{◌≡◌, ℕ, List, inl, inr, ap, subst}
use Rattle.kb_io.specs.Outside.{Outside, outside}
use Rattle.kb_io.specs.States.{ShelfState, SourceState, SinkState}
use Rattle.kb_word.specs.Presentations.{PresentationParts, parts_of}
use Rattle.kb_task.specs.Runs.{IsRun}
use Rattle.kb_cmd_words.specs.ByRelations.{ByRelationsMean, StoresNothing}
use Rattle.kb_cmd_words.specs.Given.{Given}
use Rattle.kb_task.proofs.RunLemmas.{unchanged-loads, run-after_loads, run-ends}
use Rattle.kb_cmd_words.proofs.RunLemmas.{answers-later}
use Rattle.kb_cmd_words.proofs.run.run_by_relations.Goals as goal

pub returns-in-Ok : goal.returns-in-Ok
returns-in-Ok g c =
    let shelf : ShelfState = g.F.Shelf.state c.args.shelf.now in
    let loaded : ShelfState = g.F.Shelf.state c.load_presentation.new.shelf in
    let input : SourceState = g.I.Source.state c.args.input.now in
    let output : SinkState = g.O.Sink.state c.args.out.now in
    let after : Outside = outside loaded (g.I.Source.state c.answer_by.new.input) (g.O.Sink.state c.answer_by.new.out) in
    let parts : PresentationParts = parts_of c.in-Ok.presentation in
    let loads = c.load_presentation.ensures.only_loads in
    let file : c.task.inside.file ≡ c.args.task.file = ap (λ (given : Given). given.file) c.task.view_is in
    let Runs : List ℕ → Type 0 = λ name.
    IsRun (ByRelationsMean name) StoresNothing (outside shelf input output) after c.answer_by.result in
    subst Runs file
    (run-after_loads shelf loaded input output loads after c.answer_by.result (c.answer_by.ensures loaded) (λ name stored. stored)
    (λ told means. inr (
      parts,
      c.in-Ok.ensures.holds told.shelf,
      answers-later parts shelf loaded input output (unchanged-loads shelf loaded input output loads) after c.answer_by.result means,
    )))

pub returns-in-Err : goal.returns-in-Err
returns-in-Err g c =
    let shelf : ShelfState = g.F.Shelf.state c.args.shelf.now in
    let loaded : ShelfState = g.F.Shelf.state c.load_presentation.new.shelf in
    let input : SourceState = g.I.Source.state c.args.input.now in
    let output : SinkState = g.O.Sink.state c.args.out.now in
    let loads = c.load_presentation.ensures.only_loads in
    let file : c.task.inside.file ≡ c.args.task.file = ap (λ (given : Given). given.file) c.task.view_is in
    let Runs : List ℕ → Type 0 = λ name.
    IsRun (ByRelationsMean name) StoresNothing (outside shelf input output) (outside loaded input output) c.in-Err.status in
    subst Runs file
    (run-ends shelf loaded input output loads c.in-Err.status (c.in-Err.ensures.fault input output)
    (λ told. inl (c.in-Err.ensures.ends told.shelf, unchanged-loads shelf loaded input output loads)))
