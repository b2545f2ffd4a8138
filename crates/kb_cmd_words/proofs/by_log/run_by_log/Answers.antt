use Rattle.std.proofs.Common.{◌≡◌, ℕ, List, ap, subst}
use Rattle.kb_io.specs.Outside.{Outside, outside}
use Rattle.kb_io.specs.States.{ShelfState, SourceState, SinkState}
use Rattle.kb_word.specs.Presentations.{PresentationParts, parts_of}
use Rattle.kb_task.specs.Loads.{EndsAtLoad}
use Rattle.kb_task.specs.Logs.{HoldsDerivations, IsDerivationsFault}
use Rattle.kb_task.specs.Runs.{IsRun}
use Rattle.kb_evidence.specs.Files.{log_file}
use Rattle.kb_cmd_words.specs.ByLog.{ByLogMeans}
use Rattle.kb_cmd_words.specs.ByRelations.{StoresNothing}
use Rattle.kb_cmd_words.specs.Given.{Given}
use Rattle.kb_cmd_words.proofs.LogRuns.{run-memory, run-unpresented, run-unread, run-read}
use Rattle.kb_cmd_words.proofs.by_log.run_by_log.Goals as goal

pub returns-in_default : goal.returns-in_default
returns-in_default g c =
    run-memory c.args.task.file (g.F.Shelf.state c.args.shelf.now) (g.I.Source.state c.args.input.now) (g.O.Sink.state c.args.out.now)

pub returns-in-Err : goal.returns-in-Err
returns-in-Err g c =
    let shelf : ShelfState = g.F.Shelf.state c.args.shelf.now in
    let presented : ShelfState = g.F.Shelf.state c.load_presentation.new.shelf in
    let input : SourceState = g.I.Source.state c.args.input.now in
    let output : SinkState = g.O.Sink.state c.args.out.now in
    let file : c.task.inside.file ≡ c.args.task.file = ap (λ (given : Given). given.file) c.task.view_is in
    let Runs : List ℕ → Type 0 = λ name.
    IsRun (ByLogMeans name) StoresNothing (outside shelf input output) (outside presented input output) c.in-Err.status in
    subst Runs file
    (run-unpresented c.task.inside.file shelf presented presented input output c.load_presentation.ensures.only_loads c.in-Err.status
    c.in-Err.ensures.ends (c.in-Err.ensures.fault input output))

pub returns-in-Err-load_derivations : goal.returns-in-Err-load_derivations
returns-in-Err-load_derivations g c =
    let shelf : ShelfState = g.F.Shelf.state c.args.shelf.now in
    let presented : ShelfState = g.F.Shelf.state c.load_presentation.new.shelf in
    let loaded : ShelfState = g.F.Shelf.state c.load_derivations.new.shelf in
    let input : SourceState = g.I.Source.state c.args.input.now in
    let output : SinkState = g.O.Sink.state c.args.out.now in
    let parts : PresentationParts = parts_of c.in-Ok-load_presentation.presentation in
    let status = c.in-Err-load_derivations.status in
    let named : c.in-Ok.name ≡ log_file c.task.inside.file = c.in-Ok.ensures in
    let file : c.task.inside.file ≡ c.args.task.file = ap (λ (given : Given). given.file) c.task.view_is in
    let Runs : List ℕ → Type 0 = λ name.
    IsRun (ByLogMeans name) StoresNothing (outside shelf input output) (outside loaded input output) status in
    subst Runs file
    (run-unread c.task.inside.file shelf presented loaded input output c.load_presentation.ensures.only_loads parts
    c.in-Ok-load_presentation.ensures.holds
    c.load_derivations.ensures.only_loads status
    (λ told. subst (λ (name : List ℕ). EndsAtLoad (IsDerivationsFault parts.names presented.holds name) name status) named
    (c.in-Err-load_derivations.ensures.ends told))
    (c.in-Err-load_derivations.ensures.fault input output))

pub returns-in-Ok-load_derivations : goal.returns-in-Ok-load_derivations
returns-in-Ok-load_derivations g c =
    let shelf : ShelfState = g.F.Shelf.state c.args.shelf.now in
    let presented : ShelfState = g.F.Shelf.state c.load_presentation.new.shelf in
    let loaded : ShelfState = g.F.Shelf.state c.load_derivations.new.shelf in
    let input : SourceState = g.I.Source.state c.args.input.now in
    let output : SinkState = g.O.Sink.state c.args.out.now in
    let after : Outside = outside loaded (g.I.Source.state c.check_log.new.input) (g.O.Sink.state c.check_log.new.out) in
    let parts : PresentationParts = parts_of c.in-Ok-load_presentation.presentation in
    let log = c.in-Ok-load_derivations.log in
    let named : c.in-Ok.name ≡ log_file c.task.inside.file = c.in-Ok.ensures in
    let file : c.task.inside.file ≡ c.args.task.file = ap (λ (given : Given). given.file) c.task.view_is in
    let Runs : List ℕ → Type 0 = λ name.
    IsRun (ByLogMeans name) StoresNothing (outside shelf input output) after c.check_log.result in
    subst Runs file
    (run-read c.task.inside.file shelf presented loaded input output c.load_presentation.ensures.only_loads parts
    c.in-Ok-load_presentation.ensures.holds
    c.load_derivations.ensures.only_loads log
    (λ told. subst (λ (name : List ℕ). HoldsDerivations presented.holds name parts.names log) named (c.in-Ok-load_derivations.ensures.holds told))
    after c.check_log.result (c.check_log.ensures loaded))
