-- What a run of `kbprog` means, from what it means after the load of its file.
use Rattle.std.proofs.Common.{inl, inr, refl, arith}
use Rattle.std.specs.Prelude.{IsTrue}
use Rattle.kb_io.specs.Outside.{Outside, outside}
use Rattle.kb_io.specs.States.{ShelfState, SourceState, SinkState}
use Rattle.kb_word.specs.Presentations.{PresentationParts}
use Rattle.kb_task.specs.declared.loading.LoadStop.TheVariants as load_stops
use Rattle.kb_task.specs.Loads.{OnlyLoads}
use Rattle.kb_task.specs.Presentations.{HoldsPresentation}
use Rattle.kb_task.specs.Runs.{IsRun}
use Rattle.kb_task.specs.declared.status.Status.{Status}
use Rattle.kb_task.specs.declared.status.Status.TheVariants.{Memory}
use Rattle.kb_task.proofs.EffectLemmas.{unchanged-printed}
use Rattle.kb_task.proofs.RunLemmas.{run-prints}
use Rattle.kb_answering.specs.Answers.{AnswersMean}
use Rattle.kb_answering.proofs.LoadedRuns.{run-loaded}
use Rattle.kb_cmd_completion.specs.Given.{KbprogGiven}
use Rattle.kb_cmd_completion.specs.Kbprog.{KbprogMeans, kbprog_may_store, kbprog_own, kbprog_shows}

-- memory ran out before the file was loaded
pub run-unloaded : (given : KbprogGiven) (shelf : ShelfState) (input : SourceState) (output : SinkState)
    → IsRun (KbprogMeans given) (kbprog_may_store given) (outside shelf input output) (outside shelf input output) Memory
run-unloaded given shelf input output =
    run-prints shelf input output output Memory (record { told = refl; faults = omega arith }) tt
    (λ told. inl (record { stop = load_stops.Memory; is = refl; cause = tt }, unchanged-printed shelf input output output refl))

-- the file was loaded, and holds this presentation
pub run-held : (given : KbprogGiven) (parts : PresentationParts) (shelf loaded : ShelfState) (input : SourceState) (output : SinkState)
    → OnlyLoads shelf loaded → (after : Outside) (status : Status)
    → (IsTrue shelf.told → HoldsPresentation shelf.holds given.file parts)
    → IsRun (AnswersMean (kbprog_own given) (kbprog_shows given) parts) (kbprog_may_store given) (outside loaded input output) after status
    → IsRun (KbprogMeans given) (kbprog_may_store given) (outside shelf input output) after status
run-held given parts shelf loaded input output loads after status holds run =
    run-loaded (kbprog_own given) (kbprog_shows given) parts shelf loaded input output loads after status
    (λ told means. inr (parts, holds told.shelf, means)) run
