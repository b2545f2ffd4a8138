-- A run that stores nothing, and one that goes on after files were loaded.
use Rattle.std.proofs.Common.{inl, ℕ, List, refl, arith}
use Rattle.kb_io.specs.Outside.{Outside, outside, IsTold}
use Rattle.kb_io.specs.States.{ShelfState, SourceState, SinkState}
use Rattle.kb_word.specs.Presentations.{PresentationParts}
use Rattle.kb_task.specs.Loads.{OnlyLoads}
use Rattle.kb_task.specs.Runs.{IsRun}
use Rattle.kb_task.specs.declared.status.Status.{Status}
use Rattle.kb_task.specs.declared.status.Status.TheVariants.{Memory}
use Rattle.kb_task.proofs.EffectLemmas.{unchanged-printed}
use Rattle.kb_task.proofs.RunLemmas.{run-prints, run-after_loads, unchanged-loads}
use Rattle.kb_answering.specs.Answers.{Own, Shows, AnswersMean}
use Rattle.kb_answering.specs.AnswerLaws.{answers-later}

module _ (own : Own) (shows : Shows) (parts : PresentationParts) {MayStore : List ℕ → Type 0} where
  -- memory ran out before anything was stored
  pub nothing-run : (shelf : ShelfState) (input : SourceState) (output : SinkState)
      → IsRun (AnswersMean own shows parts) MayStore (outside shelf input output) (outside shelf input output) Memory
  nothing-run shelf input output =
      run-prints shelf input output output Memory (record { told = refl; faults = omega arith }) tt
      (λ told. inl (unchanged-printed shelf input output output refl))

  -- what a run means that went on after the presentation was loaded
  pub run-loaded : {Means : Outside → Outside → Status → Type 0} (shelf loaded : ShelfState) (input : SourceState) (output : SinkState)
      → OnlyLoads shelf loaded → (after : Outside) (status : Status)
      → (IsTold (outside shelf input output) → AnswersMean own shows parts (outside shelf input output) after status
      → Means (outside shelf input output) after status)
      → IsRun (AnswersMean own shows parts) MayStore (outside loaded input output) after status
      → IsRun Means MayStore (outside shelf input output) after status
  run-loaded shelf loaded input output loads after status means run =
      run-after_loads shelf loaded input output loads {Then = AnswersMean own shows parts} after status run (λ name stored. stored)
      (λ told later. means told (
      answers-later own shows parts shelf loaded input output (unchanged-loads shelf loaded input output loads) after status later
      ))
