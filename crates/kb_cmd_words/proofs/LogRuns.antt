-- What a run by the lines of a log means, from what its parts mean.
use Rattle.std.proofs.Common.{◌≡◌, inl, inr, ℕ, List, refl, sym, subst, arith}
use Rattle.std.specs.Prelude.{IsTrue}
use Rattle.kb_io.specs.Outside.{Outside, outside, IsUnchanged}
use Rattle.kb_io.specs.States.{ShelfState, SourceState, SinkState, SinkGoesOn}
use Rattle.kb_word.specs.Presentations.{PresentationParts}
use Rattle.kb_proof.specs.declared.log.Log.{Log}
use Rattle.kb_lines.specs.Answered.{AllAnswered, Stops, StopIsCounted}
use Rattle.kb_lines.specs.Streams.{Streams, AreTold, StreamsGoOn}
use Rattle.kb_lines.specs.declared.stop.Stop.{Stop}
use Rattle.kb_task.specs.Lines.{LineIsWritten}
use Rattle.kb_task.specs.Loads.{EndsAtLoad, OnlyLoads}
use Rattle.kb_task.specs.Logs.{HoldsDerivations, IsDerivationsFault}
use Rattle.kb_task.specs.Presentations.{HoldsPresentation, IsPresentationFault}
use Rattle.kb_task.specs.Runs.{FaultIsCounted, IsRun}
use Rattle.kb_task.specs.Stops.{stop_status}
use Rattle.kb_task.specs.declared.loading.LoadStop.TheVariants as load_stops
use Rattle.kb_task.specs.declared.status.Status.{Status}
use Rattle.kb_task.specs.declared.status.Status.TheVariants.{Yes, Memory}
use Rattle.kb_task.proofs.EffectLemmas.{unchanged-later, writes-later, front-later, writes-printed, front-printed, unchanged-printed}
use Rattle.kb_task.proofs.LoadEnds.{same_files}
use Rattle.kb_task.proofs.RunLemmas.{counted_after, goes_on-loads, loads-along, run-after_loads, run-ends, run-prints, told-later, unchanged-loads}
use Rattle.kb_task.proofs.StopLemmas.{stop-counted}
use Rattle.kb_evidence.specs.Files.{log_file}
use Rattle.kb_cmd_words.specs.ByLog.{ByLogMeans, LogMeans, answered, stopped, objected, cut_off, no_memory}
use Rattle.kb_cmd_words.specs.ByRelations.{StoresNothing}
use Rattle.kb_cmd_words.specs.Confluence.{IsLeastIn}
use Rattle.kb_cmd_words.specs.LogLines.{Decides, Objects, objection_line, objection_status}
use Rattle.kb_cmd_words.specs.declared.objection.Objection.{Objection}

-- what a status means where nothing but loads came before
log-later : (parts : PresentationParts) (log : Log) (shelf loaded : ShelfState) (input : SourceState) (output : SinkState)
    → IsUnchanged (outside shelf input output) (outside loaded input output) → (after : Outside) (status : Status)
    → LogMeans parts log (outside loaded input output) after status → LogMeans parts log (outside shelf input output) after status
log-later parts log shelf loaded input output same after status (answered is decides all) = answered is decides all
log-later parts log shelf loaded input output same after status (stopped stop is decides how) = stopped stop is decides how
log-later parts log shelf loaded input output same after status (objected objection is says writes) =
    objected objection is says (writes-later same writes)
log-later parts log shelf loaded input output same after status (cut_off objection is says front) =
    cut_off objection is says (front-later same front)
log-later parts log shelf loaded input output same after status (no_memory is unchanged) = no_memory is (unchanged-later same unchanged)

module _ (parts : PresentationParts) (log : Log) (shelf : ShelfState) where
  -- ---- objections

  means-printed : (input : SourceState) (objection : Objection) → Objects parts log objection → (before after : SinkState) (status : Status)
      → LineIsWritten (objection_line parts.names objection) (objection_status objection) before after status
      → LogMeans parts log (outside shelf input before) (outside shelf input after) status
  means-printed input objection says before after status (inl written) =
      objected objection written.0 says (writes-printed shelf input before after (objection_line parts.names objection) written.1)
  means-printed input objection says before after status (inr front) =
      cut_off objection front.0 says (front-printed shelf input before after (objection_line parts.names objection) front.1)

  -- the line of an objection is printed
  pub run-objection : (input : SourceState) (objection : Objection) → Objects parts log objection → (line : List ℕ)
      → line ≡ objection_line parts.names objection → (own : Status) → own ≡ objection_status objection
      → (before after : SinkState) (status : Status)
      → (IsTrue before.told → LineIsWritten line own before after status)
      → FaultIsCounted (outside shelf input before) (outside shelf input after) status → SinkGoesOn before after
      → IsRun (LogMeans parts log) StoresNothing (outside shelf input before) (outside shelf input after) status
  run-objection input objection says line is own is_own before after status written fault goes_on =
      let OfLine : List ℕ → Type 0 = λ bytes. LineIsWritten bytes own before after status in
      let OfStatus : Status → Type 0 = λ s. LineIsWritten (objection_line parts.names objection) s before after status in
      run-prints {Means = LogMeans parts log} {MayStore = StoresNothing} shelf input before after status goes_on fault
      (λ told. means-printed input objection says before after status (subst OfStatus is_own (subst OfLine is (written told.output))))

  -- memory ran out before anything was done
  pub run-nothing : (input : SourceState) (output : SinkState)
      → IsRun (LogMeans parts log) StoresNothing (outside shelf input output) (outside shelf input output) Memory
  run-nothing input output =
      run-prints {Means = LogMeans parts log} {MayStore = StoresNothing} shelf input output output Memory
      (record { told = refl; faults = omega arith }) tt
      (λ told. no_memory refl (unchanged-printed shelf input output output refl))

  -- ---- word lines

  -- a run on the input and the output
  streams-run : (before after : Streams) (status : Status) → StreamsGoOn before after
      → FaultIsCounted (outside shelf before.input before.output) (outside shelf after.input after.output) status
      → (AreTold before → LogMeans parts log (outside shelf before.input before.output) (outside shelf after.input after.output) status)
      → IsRun (LogMeans parts log) StoresNothing (outside shelf before.input before.output) (outside shelf after.input after.output) status
  streams-run before after status goes_on fault means = record {
    means = λ told. means (record { input = told.input; output = told.output });
    fault = fault;
    goes_on = record {
      shelf = record { told = refl; load_faults = omega arith; store_faults = omega arith };
      input = goes_on.input;
      output = goes_on.output;
    };
    files = λ name may_not. refl;
  }

  -- all lines were answered
  pub run-answered : (before after : Streams) → Decides parts log → StreamsGoOn before after
      → (AreTold before → AllAnswered parts (IsLeastIn parts) before after)
      → IsRun (LogMeans parts log) StoresNothing (outside shelf before.input before.output) (outside shelf after.input after.output) Yes
  run-answered before after decides goes_on all = streams-run before after Yes goes_on tt (λ told. answered refl decides (all told))

  -- the answers stopped
  pub run-stopped : (before after : Streams) (stop : Stop) (status : Status) → status ≡ stop_status stop → Decides parts log
      → StreamsGoOn before after → StopIsCounted before after stop
      → (AreTold before → Stops parts (IsLeastIn parts) before after stop)
      → IsRun (LogMeans parts log) StoresNothing (outside shelf before.input before.output) (outside shelf after.input after.output) status
  run-stopped before after stop status is decides goes_on counted how =
      let Ends : Status → Type 0 = λ s.
      IsRun (LogMeans parts log) StoresNothing (outside shelf before.input before.output) (outside shelf after.input after.output) s in
      subst Ends (sym is)
      (streams-run before after (stop_status stop) goes_on
      (stop-counted (outside shelf before.input before.output) (outside shelf after.input after.output) stop counted)
      (λ told. stopped stop refl decides (how told)))

-- ---- loads

-- memory ran out before anything was loaded
pub run-memory : (file : List ℕ) (shelf : ShelfState) (input : SourceState) (output : SinkState)
    → IsRun (ByLogMeans file) StoresNothing (outside shelf input output) (outside shelf input output) Memory
run-memory file shelf input output =
    run-prints {Means = ByLogMeans file} {MayStore = StoresNothing} shelf input output output Memory
    (record { told = refl; faults = omega arith }) tt
    (λ told. inl (record { stop = load_stops.Memory; is = refl; cause = tt }, unchanged-printed shelf input output output refl))

module _ (file : List ℕ) (shelf presented loaded : ShelfState) (input : SourceState) (output : SinkState) (loads : OnlyLoads shelf presented) where
  -- the run ended at the presentation
  pub run-unpresented : (status : Status) → (IsTrue shelf.told → EndsAtLoad (IsPresentationFault shelf.holds file) file status)
      → FaultIsCounted (outside shelf input output) (outside presented input output) status
      → IsRun (ByLogMeans file) StoresNothing (outside shelf input output) (outside presented input output) status
  run-unpresented status ends fault =
      run-ends shelf presented input output loads status fault
      (λ told. inl (ends told.shelf, unchanged-loads shelf presented input output loads))

  module _ (parts : PresentationParts) (presents : IsTrue shelf.told → HoldsPresentation shelf.holds file parts)
      (reads : OnlyLoads presented loaded) where
    -- the run ended at the log
    pub run-unread : (status : Status)
        → (IsTrue presented.told → EndsAtLoad (IsDerivationsFault parts.names presented.holds (log_file file)) (log_file file) status)
        → FaultIsCounted (outside presented input output) (outside loaded input output) status
        → IsRun (ByLogMeans file) StoresNothing (outside shelf input output) (outside loaded input output) status
    run-unread status ends fault =
        let both = loads-along loads reads in
        let goes_on = goes_on-loads shelf presented input output loads in
        run-ends shelf loaded input output both status
        (counted_after (outside shelf input output) (outside presented input output) (outside loaded input output) status goes_on fault)
        (λ told. inr (
          parts,
          presents told.shelf,
          inl (
            subst (λ files. EndsAtLoad (IsDerivationsFault parts.names files (log_file file)) (log_file file) status) (same_files loads)
                (ends (told-later goes_on told).shelf),
            unchanged-loads shelf loaded input output both,
          ),
        ))

    -- the log was read
    pub run-read : (log : Log) → (IsTrue presented.told → HoldsDerivations presented.holds (log_file file) parts.names log)
        → (after : Outside) (status : Status) → IsRun (LogMeans parts log) StoresNothing (outside loaded input output) after status
        → IsRun (ByLogMeans file) StoresNothing (outside shelf input output) after status
    run-read log holds after status run =
        let both = loads-along loads reads in
        let goes_on = goes_on-loads shelf presented input output loads in
        run-after_loads shelf loaded input output both
        after status run (λ name stored. stored)
        (λ told means. inr (
          parts,
          presents told.shelf,
          inr (
            log,
            subst (λ files. HoldsDerivations files (log_file file) parts.names log) (same_files loads) (holds (told-later goes_on told).shelf),
            log-later parts log shelf loaded input output (unchanged-loads shelf loaded input output both) after status means,
          ),
        ))
