-- A run that answers word lines, from how the answers ended.
use Rattle.std.proofs.Common.{◌≡◌, refl, sym, subst, arith}
use Rattle.kb_io.specs.Outside.{Outside, outside}
use Rattle.kb_io.specs.States.{ShelfState}
use Rattle.kb_word.specs.Presentations.{PresentationParts}
use Rattle.kb_lines.specs.Streams.{Streams, AreTold, StreamsGoOn}
use Rattle.kb_lines.specs.Answered.{AllAnswered, Stops, StopIsCounted}
use Rattle.kb_lines.specs.declared.stop.Stop.{Stop}
use Rattle.kb_lines.specs.declared.stop.Stop.TheVariants as stops
use Rattle.kb_task.specs.Runs.{FaultIsCounted, IsRun}
use Rattle.kb_task.specs.Stops.{stop_status}
use Rattle.kb_task.specs.declared.status.Status.{Status}
use Rattle.kb_task.specs.declared.status.Status.TheVariants.{Yes}
use Rattle.kb_task.proofs.StopLemmas.{stop-counted}
use Rattle.kb_system.specs.Completed.{IsLeastIn}
use Rattle.kb_answering.specs.Answers.{streams_of, LinesMean}

-- the answers stopped
stop-means : (parts : PresentationParts) (before after : Outside) (stop : Stop)
    → Stops parts (IsLeastIn parts) (streams_of before) (streams_of after) stop → LinesMean parts before after (stop_status stop)
stop-means parts before after (stops.Refused number fault) how = how
stop-means parts before after stops.TooLong how = how
stop-means parts before after stops.Input how = how
stop-means parts before after stops.Output how = how
stop-means parts before after stops.Memory how = how

module _ (parts : PresentationParts) (shelf : ShelfState) (before after : Streams) (goes_on : StreamsGoOn before after) where
  streams-run : (status : Status) → FaultIsCounted (outside shelf before.input before.output) (outside shelf after.input after.output) status
      → (AreTold before → LinesMean parts (outside shelf before.input before.output) (outside shelf after.input after.output) status)
      → IsRun (LinesMean parts) (λ name. ⊥) (outside shelf before.input before.output) (outside shelf after.input after.output) status
  streams-run status fault means = record {
    means = λ told. means (record { input = told.input; output = told.output });
    fault = fault;
    goes_on = record {
      shelf = record { told = refl; load_faults = omega arith; store_faults = omega arith };
      input = goes_on.input;
      output = goes_on.output;
    };
    files = λ name may_not. refl;
  }

  pub answered-run : (AreTold before → AllAnswered parts (IsLeastIn parts) before after)
      → IsRun (LinesMean parts) (λ name. ⊥) (outside shelf before.input before.output) (outside shelf after.input after.output) Yes
  answered-run answered = streams-run Yes tt answered

  pub stop-run : (stop : Stop) (status : Status) → status ≡ stop_status stop → StopIsCounted before after stop
      → (AreTold before → Stops parts (IsLeastIn parts) before after stop)
      → IsRun (LinesMean parts) (λ name. ⊥) (outside shelf before.input before.output) (outside shelf after.input after.output) status
  stop-run stop status is counted how =
      subst (λ (s : Status). IsRun (LinesMean parts) (λ name. ⊥) (outside shelf before.input before.output) (outside shelf after.input after.output) s) (sym is)
      (streams-run (stop_status stop)
      (stop-counted (outside shelf before.input before.output) (outside shelf after.input after.output) stop counted)
      (λ told. stop-means parts (outside shelf before.input before.output) (outside shelf after.input after.output) stop (how told)))
