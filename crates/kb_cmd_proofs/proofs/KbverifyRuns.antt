-- What a run of `kbverify` means, from what its parts mean.
use Rattle.std.proofs.Common.{◌≡◌, inl, inr, ℕ, List, refl, subst, arith}
use Rattle.std.specs.Prelude.{IsTrue}
use Rattle.kb_io.specs.Outside.{Outside, outside, IsUnchanged}
use Rattle.kb_io.specs.States.{ShelfState, SourceState, SinkState, SinkGoesOn}
use Rattle.kb_word.specs.Presentations.{PresentationParts}
use Rattle.kb_proof.specs.declared.log.Log.{Log}
use Rattle.kb_proof.specs.declared.verified.Verified.{Verified}
use Rattle.kb_task.specs.Lines.{LineIsWritten}
use Rattle.kb_task.specs.Loads.{EndsAtLoad, OnlyLoads}
use Rattle.kb_task.specs.Logs.{HoldsDerivations, IsDerivationsFault}
use Rattle.kb_task.specs.Presentations.{HoldsPresentation, IsPresentationFault}
use Rattle.kb_task.specs.Runs.{FaultIsCounted, IsRun}
use Rattle.kb_task.specs.declared.loading.LoadStop.TheVariants as stops
use Rattle.kb_task.specs.declared.status.Status.{Status}
use Rattle.kb_task.specs.declared.status.Status.TheVariants.{Memory}
use Rattle.kb_task.proofs.EffectLemmas.{unchanged-later, writes-later, front-later, writes-printed, front-printed, unchanged-printed}
use Rattle.kb_task.proofs.LoadEnds.{same_files}
use Rattle.kb_task.proofs.RunLemmas.{counted_after, goes_on-loads, loads-along, run-after_loads, run-ends, run-prints, told-later, unchanged-loads}
use Rattle.kb_evidence.specs.Files.{log_file}
use Rattle.kb_cmd_proofs.specs.Given.{KbverifyGiven}
use Rattle.kb_cmd_proofs.specs.Kbverify.{CheckMeans, answered, cut_off, no_memory, KbverifyMeans, LogSays, StoresNothing, answer_line, answer_status}

-- what a status means where nothing but loads came before
check-later : (parts : PresentationParts) (log : Log) {before between : Outside} (after : Outside) → IsUnchanged before between → (status : Status)
    → CheckMeans parts log between after status → CheckMeans parts log before after status
check-later parts log after same status (answered answer says is writes) = answered answer says is (writes-later same writes)
check-later parts log after same status (cut_off answer says is front) = cut_off answer says is (front-later same front)
check-later parts log after same status (no_memory is unchanged) = no_memory is (unchanged-later same unchanged)

module _ (parts : PresentationParts) (log : Log) (shelf : ShelfState) (input : SourceState) where
  means-printed : (answer : Verified) → LogSays parts log answer → (before after : SinkState) (status : Status)
      → LineIsWritten (answer_line answer) (answer_status answer) before after status
      → CheckMeans parts log (outside shelf input before) (outside shelf input after) status
  means-printed answer says before after status (inl written) =
      answered answer says written.0 (writes-printed shelf input before after (answer_line answer) written.1)
  means-printed answer says before after status (inr front) =
      cut_off answer says front.0 (front-printed shelf input before after (answer_line answer) front.1)

  -- the line of the answer is printed
  pub run-answer : (answer : Verified) → LogSays parts log answer → (line : List ℕ) → line ≡ answer_line answer → (own : Status) → own ≡ answer_status answer
      → (before after : SinkState) (status : Status)
      → (IsTrue before.told → LineIsWritten line own before after status)
      → FaultIsCounted (outside shelf input before) (outside shelf input after) status → SinkGoesOn before after
      → IsRun (CheckMeans parts log) StoresNothing (outside shelf input before) (outside shelf input after) status
  run-answer answer says line is own is_own before after status written fault goes_on =
      let ofLine : List ℕ → Type 0 = λ bytes. LineIsWritten bytes own before after status in
      let ofStatus : Status → Type 0 = λ s. LineIsWritten (answer_line answer) s before after status in
      run-prints {Means = CheckMeans parts log} {MayStore = StoresNothing} shelf input before after status goes_on fault
      (λ told. means-printed answer says before after status (subst ofStatus is_own (subst ofLine is (written told.output))))

  -- memory ran out before anything was printed
  pub run-unanswered : (output : SinkState) → IsRun (CheckMeans parts log) StoresNothing (outside shelf input output) (outside shelf input output) Memory
  run-unanswered output =
      run-prints {Means = CheckMeans parts log} {MayStore = StoresNothing} shelf input output output Memory
      (record { told = refl; faults = omega arith }) tt
      (λ told. no_memory refl (unchanged-printed shelf input output output refl))

-- memory ran out before anything was done
pub run-memory : (given : KbverifyGiven) (shelf : ShelfState) (input : SourceState) (output : SinkState)
    → IsRun (KbverifyMeans given) StoresNothing (outside shelf input output) (outside shelf input output) Memory
run-memory given shelf input output =
    run-prints {Means = KbverifyMeans given} {MayStore = StoresNothing} shelf input output output Memory
    (record { told = refl; faults = omega arith }) tt
    (λ told. inl (record { stop = stops.Memory; is = refl; cause = tt }, unchanged-printed shelf input output output refl))

module _ (given : KbverifyGiven) (shelf presented loaded : ShelfState) (input : SourceState) (output : SinkState) (loads : OnlyLoads shelf presented) where
  -- the run ended at the presentation
  pub run-unpresented : (status : Status) → (IsTrue shelf.told → EndsAtLoad (IsPresentationFault shelf.holds given.file) given.file status)
      → FaultIsCounted (outside shelf input output) (outside presented input output) status
      → IsRun (KbverifyMeans given) StoresNothing (outside shelf input output) (outside presented input output) status
  run-unpresented status ends fault =
      run-ends shelf presented input output loads status fault
      (λ told. inl (ends told.shelf, unchanged-loads shelf presented input output loads))

  module _ (parts : PresentationParts) (presents : IsTrue shelf.told → HoldsPresentation shelf.holds given.file parts)
      (reads : OnlyLoads presented loaded) where
    -- the run ended at the log
    pub run-unread : (status : Status)
        → (IsTrue presented.told → EndsAtLoad (IsDerivationsFault parts.names presented.holds (log_file given.file)) (log_file given.file) status)
        → FaultIsCounted (outside presented input output) (outside loaded input output) status
        → IsRun (KbverifyMeans given) StoresNothing (outside shelf input output) (outside loaded input output) status
    run-unread status ends fault =
        let both = loads-along loads reads in
        let goes_on = goes_on-loads shelf presented input output loads in
        run-ends shelf loaded input output both status
        (counted_after (outside shelf input output) (outside presented input output) (outside loaded input output) status goes_on fault)
        (λ told. inr (
          parts,
          presents told.shelf,
          inl (
            subst (λ files. EndsAtLoad (IsDerivationsFault parts.names files (log_file given.file)) (log_file given.file) status) (same_files loads)
                (ends (told-later goes_on told).shelf),
            unchanged-loads shelf loaded input output both,
          ),
        ))

    -- the log was read
    pub run-read : (log : Log) → (IsTrue presented.told → HoldsDerivations presented.holds (log_file given.file) parts.names log)
        → (written : SinkState) (status : Status) → IsRun (CheckMeans parts log) StoresNothing (outside loaded input output) (outside loaded input written) status
        → IsRun (KbverifyMeans given) StoresNothing (outside shelf input output) (outside loaded input written) status
    run-read log holds written status run =
        let both = loads-along loads reads in
        let goes_on = goes_on-loads shelf presented input output loads in
        run-after_loads shelf loaded input output both
        (outside loaded input written) status run (λ name stored. stored)
        (λ told means. inr (
          parts,
          presents told.shelf,
          inr (
            log,
            subst (λ files. HoldsDerivations files (log_file given.file) parts.names log) (same_files loads) (holds (told-later goes_on told).shelf),
            check-later parts log (outside loaded input written) (unchanged-loads shelf loaded input output both) status means,
          ),
        ))
