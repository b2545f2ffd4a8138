-- What a run of `autgroup` means, from what it means after the load of its file.
use Rattle.std.proofs.Common.{refl, arith}
use Rattle.std.specs.Prelude.{IsTrue}
use Rattle.kb_io.specs.Outside.{Outside, outside}
use Rattle.kb_io.specs.States.{ShelfState, SourceState, SinkState}
use Rattle.kb_word.specs.Presentations.{PresentationParts}
use Rattle.kb_task.specs.declared.loading.LoadStop.TheVariants as load_stops
use Rattle.kb_task.specs.Loads.{EndsAtLoad, OnlyLoads}
use Rattle.kb_task.specs.Presentations.{HoldsGroup, IsGroupFault}
use Rattle.kb_task.specs.Runs.{FaultIsCounted, IsRun}
use Rattle.kb_task.specs.declared.status.Status.{Status}
use Rattle.kb_task.specs.declared.status.Status.TheVariants.{Memory}
use Rattle.kb_task.proofs.EffectLemmas.{unchanged-printed}
use Rattle.kb_task.proofs.RunLemmas.{run-ends, run-prints, unchanged-loads}
use Rattle.kb_answering.specs.Answers.{AnswersMean}
use Rattle.kb_answering.proofs.LoadedRuns.{run-loaded}
use Rattle.kb_cmd_structures.specs.Autgroup.{AutgroupMeans, at_file, loaded, AutgroupMayStore, autgroup_own, autgroup_shows}
use Rattle.kb_cmd_structures.specs.Given.{AutgroupGiven}

-- memory ran out before the file was loaded
pub run-unloaded : (given : AutgroupGiven) (shelf : ShelfState) (input : SourceState) (output : SinkState)
    → IsRun (AutgroupMeans given) (AutgroupMayStore given) (outside shelf input output) (outside shelf input output) Memory
run-unloaded given shelf input output =
    run-prints shelf input output output Memory (record { told = refl; faults = omega arith }) tt
    (λ told. at_file (record { stop = load_stops.Memory; is = refl; cause = tt }) (unchanged-printed shelf input output output refl))

module _ (given : AutgroupGiven) (shelf read : ShelfState) (input : SourceState) (output : SinkState) (loads : OnlyLoads shelf read) where
  -- the file was loaded, and holds this group
  pub run-held : (parts : PresentationParts) (after : Outside) (status : Status)
      → (IsTrue shelf.told → HoldsGroup shelf.holds given.file parts)
      → IsRun (AnswersMean (autgroup_own given) (autgroup_shows given) parts) (AutgroupMayStore given) (outside read input output) after status
      → IsRun (AutgroupMeans given) (AutgroupMayStore given) (outside shelf input output) after status
  run-held parts after status holds run =
      run-loaded (autgroup_own given) (autgroup_shows given) parts shelf read input output loads after status
      (λ told means. loaded (holds told.shelf) means) run

  -- the run ended at the file
  pub run-at_group : (status : Status)
      → (IsTrue shelf.told → EndsAtLoad (IsGroupFault shelf.holds given.file) given.file status)
      → FaultIsCounted (outside shelf input output) (outside read input output) status
      → IsRun (AutgroupMeans given) (AutgroupMayStore given) (outside shelf input output) (outside read input output) status
  run-at_group status ends fault =
      run-ends shelf read input output loads status fault
      (λ told. at_file (ends told.shelf) (unchanged-loads shelf read input output loads))
