-- What a run by the lines of a log means, from what its parts mean.
use Rattle.std.proofs.Common.{◌≡◌, ◌≢◌, ℕ, List, [], refl, sym, subst, arith}
use Rattle.std.specs.Prelude.{IsTrue, true}
use Rattle.std.specs.List.{AllPairs, Contains}
use Rattle.kb_io.specs.Outside.{Outside, outside}
use Rattle.kb_io.specs.States.{ShelfState, SourceState, SinkState}
use Rattle.kb_word.specs.declared.presentation.Presentation.{Presentation}
use Rattle.kb_fsa.specs.Language.{Automaton}
use Rattle.kb_proof.specs.declared.log.Log.{Log}
use Rattle.kb_task.specs.Loads.{OnlyLoads}
use Rattle.kb_task.specs.Runs.{FaultIsCounted, IsRun}
use Rattle.kb_task.specs.Statuses.{IsFaultless}
use Rattle.kb_task.specs.Stores.{Text, names_of, texts_of}
use Rattle.kb_task.specs.declared.status.Status.{Status}
use Rattle.kb_task.specs.declared.status.Status.TheVariants.{Memory}
use Rattle.kb_task.proofs.RunLemmas.{run-after_loads, run-ends, unchanged-loads}
use Rattle.kb_cmd_structures.specs.ByLog.{ByLogMeans, at_logged, log_refuted, log_read, EndsAtLogged, FindsByLog, own_by_log, refuted_by_log, too_many_by_log, unresolved_by_log, FindsUnjustified, unjustified}
use Rattle.kb_cmd_structures.specs.Findings.{HasParts}
use Rattle.kb_cmd_structures.specs.Given.{CheckGiven}
use Rattle.kb_cmd_structures.specs.GpaxiomsPromise.{MayStoreBy}
use Rattle.kb_cmd_structures.specs.Logged.{AreLogged, AreReadyIn, IsFoundIn}
use Rattle.kb_cmd_structures.specs.Shown.{Found, ShowMeans, no_memory}
use Rattle.kb_cmd_structures.specs.declared.finding.Finding.{Finding}
use Rattle.kb_cmd_structures.specs.declared.logged.Logged.{Logged}
use Rattle.kb_cmd_structures.specs.declared.logged.Logged.TheVariants.{Justified, Unjustified}
use Rattle.kb_cmd_structures.proofs.FoundLemmas.{none_in_empty}
use Rattle.kb_cmd_structures.proofs.RunLemmas.{answer-later, show_found}

-- ---- what is found can be written

-- what has these parts is found where they are
as_parts : (found : Found) (finding : Finding) {status : Status} {texts : List Text} {line : List ℕ} → HasParts status texts line finding
    → found status texts line → found finding.status (texts_of finding.files.items) finding.line.items
as_parts found finding {status} {texts} {line} parts finds =
    let S : Status → Type 0 = λ s. found s texts line in
    let T : List Text → Type 0 = λ t. found finding.status t line in
    let W : List ℕ → Type 0 = λ l. found finding.status (texts_of finding.files.items) l in
    subst W (sym parts.writes) (subst T (sym parts.stores) (subst S (sym parts.ends) finds))

module _ {given : CheckGiven} {presentation : Presentation} {log : Log} {acceptor : Automaton} {multipliers : List Automaton} where
  lines_faultless : {status : Status} {texts : List Text} {line : List ℕ}
      → FindsByLog given presentation log acceptor multipliers status texts line → IsFaultless status
  lines_faultless (own_by_log passes is_own agree) = refl
  lines_faultless (refuted_by_log first settled) = refl
  lines_faultless (too_many_by_log first) = refl
  lines_faultless (unresolved_by_log is) = refl

  -- no file is stored
  lines_texts : {status : Status} {texts : List Text} {line : List ℕ}
      → FindsByLog given presentation log acceptor multipliers status texts line → texts ≡ []
  lines_texts (own_by_log passes is_own agree) = refl
  lines_texts (refuted_by_log first settled) = refl
  lines_texts (too_many_by_log first) = refl
  lines_texts (unresolved_by_log is) = refl

module _ (given : CheckGiven) (logged : Logged) (finding : Finding) where
  pub logged_faultless : IsFoundIn given logged finding → IsFaultless finding.status
  logged_faultless found = of logged found
    where
      of : (it : Logged) → IsFoundIn given it finding → IsFaultless finding.status
      of (Justified loaded log) found = lines_faultless found
      of (Unjustified number why) found = subst IsFaultless (sym found.ends) refl

  logged_texts : IsFoundIn given logged finding → texts_of finding.files.items ≡ []
  logged_texts found = of logged found
    where
      of : (it : Logged) → IsFoundIn given it finding → texts_of finding.files.items ≡ []
      of (Justified loaded log) found = lines_texts found
      of (Unjustified number why) found = found.stores

  pub logged_differ : IsFoundIn given logged finding
      → AllPairs (λ (one other : List ℕ). one ≢ other) (names_of (texts_of finding.files.items))
  logged_differ found =
      let Differ : List Text → Type 0 = λ texts. AllPairs (λ (one other : List ℕ). one ≢ other) (names_of texts) in
      let none : Differ [] = λ i j d before within. absurd (omega (arith, before, within)) in
      subst Differ (sym (logged_texts found)) none

  -- so no name is stored
  logged_none : IsFoundIn given logged finding → (name : List ℕ) → ¬ Contains (names_of (texts_of finding.files.items)) name
  logged_none found name here =
      let Names : List Text → Type 0 = λ texts. Contains (names_of texts) name in
      none_in_empty name (subst Names (logged_texts found) here)

-- ---- a run

module _ (given : CheckGiven) (shelf read : ShelfState) (input : SourceState) (output : SinkState) (loads : OnlyLoads shelf read) where
  -- the run ended at a file
  pub run-at_logged : (status : Status) → (IsTrue shelf.told → EndsAtLogged shelf.holds given.file status)
      → FaultIsCounted (outside shelf input output) (outside read input output) status
      → IsRun (ByLogMeans given) (MayStoreBy true given) (outside shelf input output) (outside read input output) status
  run-at_logged status ends fault =
      run-ends shelf read input output loads status fault
      (λ told. at_logged (ends told.shelf) (unchanged-loads shelf read input output loads))

  -- what was shown after files were loaded was shown from the first moment on
  later : (found : Found) (after : Outside) (status : Status) → ShowMeans found (outside read input output) after status
      → ShowMeans found (outside shelf input output) after status
  later found after status means = answer-later found shelf read input output (unchanged-loads shelf read input output loads) after status means

  -- what a status means of what was loaded
  means_of : (logged : Logged) (finding : Finding) (after : Outside) (status : Status) → AreLogged shelf.holds given.file logged → AreReadyIn logged
      → IsFoundIn given logged finding → ShowMeans (λ s t l. HasParts s t l finding) (outside shelf input output) after status
      → ByLogMeans given (outside shelf input output) after status
  means_of (Justified loaded log) finding after status holds ready found means =
      log_read holds.0 holds.1 ready.justified
      (show_found finding (FindsByLog given loaded.presentation log loaded.acceptor loaded.multipliers.items) found means)
  means_of (Unjustified number why) finding after status holds ready found means =
      let refutes : FindsUnjustified holds.presentation holds.log finding.status (texts_of finding.files.items) finding.line.items =
      as_parts (FindsUnjustified holds.presentation holds.log) finding found (unjustified holds.is) in
      log_refuted holds.holds (show_found finding (FindsUnjustified holds.presentation holds.log) refutes means)

  -- what a run means that went on after everything was loaded
  pub run-in_logged : (logged : Logged) (finding : Finding) (after : Outside) (status : Status)
      → (IsTrue shelf.told → AreLogged shelf.holds given.file logged) → AreReadyIn logged → IsFoundIn given logged finding
      → IsRun (ShowMeans (λ s t l. HasParts s t l finding)) (Contains (names_of (texts_of finding.files.items))) (outside read input output) after status
      → IsRun (ByLogMeans given) (MayStoreBy true given) (outside shelf input output) after status
  run-in_logged logged finding after status holds ready found run =
      run-after_loads shelf read input output loads {Then = ShowMeans (λ s t l. HasParts s t l finding)} after status run
      (λ name stored. logged_none given logged finding found name stored)
      (λ told means. means_of logged finding after status (holds told.shelf) ready found
      (later (λ s t l. HasParts s t l finding) after status means))

  -- memory ran out before anything was found
  nothing_of : (logged : Logged) → AreLogged shelf.holds given.file logged → AreReadyIn logged
      → ByLogMeans given (outside shelf input output) (outside read input output) Memory
  nothing_of (Justified loaded log) holds ready =
      log_read holds.0 holds.1 ready.justified (no_memory (unchanged-loads shelf read input output loads))
  nothing_of (Unjustified number why) holds ready =
      log_refuted holds.holds (no_memory (unchanged-loads shelf read input output loads))

  pub run-unfound : (logged : Logged) → (IsTrue shelf.told → AreLogged shelf.holds given.file logged) → AreReadyIn logged
      → IsRun (ByLogMeans given) (MayStoreBy true given) (outside shelf input output) (outside read input output) Memory
  run-unfound logged holds ready =
      run-ends shelf read input output loads Memory tt (λ told. nothing_of logged (holds told.shelf) ready)
