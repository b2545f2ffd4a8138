-- What a run of `logread` means, from what its parts mean.
use Rattle.std.proofs.Common.{◌≡◌, inl, inr, ℕ, List, refl, sym, subst, arith}
use Rattle.std.specs.Prelude.{IsTrue}
use Rattle.kb_io.specs.Outside.{Outside, outside, IsUnchanged}
use Rattle.kb_io.specs.States.{ShelfState, SourceState, SinkState, SinkGoesOn}
use Rattle.kb_word.specs.Presentations.{PresentationParts}
use Rattle.kb_proof.specs.declared.log.Log.{Log}
use Rattle.kb_task.specs.Lines.{LineIsWritten}
use Rattle.kb_task.specs.Loads.{EndsAtLoad, OnlyLoads}
use Rattle.kb_task.specs.Logs.{HoldsLog, IsLogFault}
use Rattle.kb_task.specs.Presentations.{HoldsPresentation, IsPresentationFault}
use Rattle.kb_task.specs.Runs.{FaultIsCounted, IsRun}
use Rattle.kb_task.specs.declared.loading.LoadStop.TheVariants as stops
use Rattle.kb_task.specs.declared.status.Status.{Status}
use Rattle.kb_task.specs.declared.status.Status.TheVariants.{Yes, Refused, Undecided, No, Memory, Fault, Usage}
use Rattle.kb_task.specs.declared.status.Which.TheVariants.{Load, Store, Input, Output}
use Rattle.kb_task.proofs.EffectLemmas.{unchanged-later, writes-later, front-later, writes-printed, front-printed, unchanged-printed}
use Rattle.kb_task.proofs.LoadEnds.{same_files}
use Rattle.kb_task.proofs.RunLemmas.{counted_after, goes_on-loads, loads-along, run-after_loads, run-ends, run-prints, told-later, unchanged-loads}
use Rattle.kb_evidence.specs.Files.{log_file}
use Rattle.kb_cmd_completion.specs.Given.{LogreadGiven}
use Rattle.kb_cmd_completion.specs.Logread.{LogMeans, LogreadMeans, StoresNothing, logread_line}

-- what a status means where nothing but loads came before
pub log-later : (log : Log) {before between : Outside} (after : Outside) → IsUnchanged before between → (status : Status)
    → LogMeans log between after status → LogMeans log before after status
log-later log after same Yes means = writes-later same means
log-later log after same Memory means = unchanged-later same means
log-later log after same (Fault Output) means = front-later same means
log-later log after same (Fault (Load name)) means = absurd means
log-later log after same (Fault (Store name)) means = absurd means
log-later log after same (Fault Input) means = absurd means
log-later log after same (Refused refusal) means = absurd means
log-later log after same (Undecided limit) means = absurd means
log-later log after same (No cert) means = absurd means
log-later log after same (Usage kind) means = absurd means

module _ (log : Log) (shelf : ShelfState) (input : SourceState) (before after : SinkState) (status : Status) where
  means-printed : LineIsWritten (logread_line log) Yes before after status → LogMeans log (outside shelf input before) (outside shelf input after) status
  means-printed (inl written) =
      subst (λ s. LogMeans log (outside shelf input before) (outside shelf input after) s) (sym written.0)
      (writes-printed shelf input before after (logread_line log) written.1)
  means-printed (inr front) =
      subst (λ s. LogMeans log (outside shelf input before) (outside shelf input after) s) (sym front.0)
      (front-printed shelf input before after (logread_line log) front.1)

  -- the line is printed
  pub run-summary : (line : List ℕ) → line ≡ logread_line log → (IsTrue before.told → LineIsWritten line Yes before after status)
      → FaultIsCounted (outside shelf input before) (outside shelf input after) status → SinkGoesOn before after
      → IsRun (LogMeans log) StoresNothing (outside shelf input before) (outside shelf input after) status
  run-summary line is written fault goes_on =
      run-prints {Means = LogMeans log} {MayStore = StoresNothing} shelf input before after status goes_on fault
      (λ told. means-printed (subst (λ bytes. LineIsWritten bytes Yes before after status) is (written told.output)))

-- memory ran out before anything was done
pub run-memory : (given : LogreadGiven) (shelf : ShelfState) (input : SourceState) (output : SinkState)
    → IsRun (LogreadMeans given) StoresNothing (outside shelf input output) (outside shelf input output) Memory
run-memory given shelf input output =
    run-prints {Means = LogreadMeans given} {MayStore = StoresNothing} shelf input output output Memory
    (record { told = refl; faults = omega arith }) tt
    (λ told. inl (record { stop = stops.Memory; is = refl; cause = tt }, unchanged-printed shelf input output output refl))

module _ (given : LogreadGiven) (shelf presented loaded : ShelfState) (input : SourceState) (output : SinkState) (loads : OnlyLoads shelf presented) where
  -- the run ended at the presentation
  pub run-unpresented : (status : Status) → (IsTrue shelf.told → EndsAtLoad (IsPresentationFault shelf.holds given.file) given.file status)
      → FaultIsCounted (outside shelf input output) (outside presented input output) status
      → IsRun (LogreadMeans given) StoresNothing (outside shelf input output) (outside presented input output) status
  run-unpresented status ends fault =
      run-ends shelf presented input output loads status fault
      (λ told. inl (ends told.shelf, unchanged-loads shelf presented input output loads))

  module _ (parts : PresentationParts) (presents : IsTrue shelf.told → HoldsPresentation shelf.holds given.file parts)
      (reads : OnlyLoads presented loaded) where
    -- the run ended at the log
    pub run-unread : (status : Status)
        → (IsTrue presented.told → EndsAtLoad (IsLogFault parts.names presented.holds (log_file given.file)) (log_file given.file) status)
        → FaultIsCounted (outside presented input output) (outside loaded input output) status
        → IsRun (LogreadMeans given) StoresNothing (outside shelf input output) (outside loaded input output) status
    run-unread status ends fault =
        let both = loads-along loads reads in
        let goes_on = goes_on-loads shelf presented input output loads in
        run-ends shelf loaded input output both status
        (counted_after (outside shelf input output) (outside presented input output) (outside loaded input output) status goes_on fault)
        (λ told. inr (
          parts,
          presents told.shelf,
          inl (
            subst (λ files. EndsAtLoad (IsLogFault parts.names files (log_file given.file)) (log_file given.file) status) (same_files loads)
                (ends (told-later goes_on told).shelf),
            unchanged-loads shelf loaded input output both,
          ),
        ))

    -- the log was read
    pub run-read : (log : Log) → (IsTrue presented.told → HoldsLog presented.holds (log_file given.file) parts.names log)
        → (written : SinkState) (status : Status) → IsRun (LogMeans log) StoresNothing (outside loaded input output) (outside loaded input written) status
        → IsRun (LogreadMeans given) StoresNothing (outside shelf input output) (outside loaded input written) status
    run-read log holds written status run =
        let both = loads-along loads reads in
        let goes_on = goes_on-loads shelf presented input output loads in
        run-after_loads shelf loaded input output both
        (outside loaded input written) status run (λ name stored. stored)
        (λ told means. inr (
          parts,
          presents told.shelf,
          inr (
            log,
            subst (λ files. HoldsLog files (log_file given.file) parts.names log) (same_files loads) (holds (told-later goes_on told).shelf),
            log-later log (outside loaded input written) (unchanged-loads shelf loaded input output both) status means,
          ),
        ))
