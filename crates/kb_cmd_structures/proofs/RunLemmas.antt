-- What a run means that loads a group with automata and shows what is found of them, from what its parts mean.
use Rattle.std.proofs.Common.{◌≡◌, ◌≢◌, ◌∙◌, inl, inr, ℕ, List, refl, sym, subst, arith}
use Rattle.std.specs.Prelude.{IsTrue}
use Rattle.std.specs.List.{Contains}
use Rattle.kb_io.specs.Outside.{Outside, outside, IsUnchanged}
use Rattle.kb_io.specs.States.{ShelfState, SourceState, SinkState, SinkGoesOn}
use Rattle.kb_word.specs.declared.presentation.Presentation.{Presentation}
use Rattle.kb_fsa.specs.Language.{Automaton}
use Rattle.kb_task.specs.Lines.{LineIsWritten}
use Rattle.kb_task.specs.Loads.{OnlyLoads}
use Rattle.kb_task.specs.Runs.{FaultIsCounted, IsRun}
use Rattle.kb_task.specs.Statuses.{IsYes}
use Rattle.kb_task.specs.Stores.{Text, names_of, HoldsTexts, StoresFirst, StopsAtText, StoresMean, texts_of}
use Rattle.kb_task.specs.declared.status.Status.{Status}
use Rattle.kb_task.specs.declared.status.Status.TheVariants.{Yes, Refused, Undecided, No, Memory, Fault, Usage}
use Rattle.kb_task.specs.declared.status.Which.TheVariants.{Load, Store, Input, Output}
use Rattle.kb_task.proofs.EffectLemmas.{unchanged-later, unchanged-printed}
use Rattle.kb_task.proofs.RunLemmas.{goes_on-along, counted_after, told-later, run-prints, run-after_loads, run-ends, unchanged-loads}
use Rattle.kb_cmd_structures.specs.Findings.{HasParts}
use Rattle.kb_cmd_structures.specs.Loaded.{EndsAtFile, HoldStructure}
use Rattle.kb_cmd_structures.specs.Shown.{Found, FoundOf, ShowMeans, shown, output_failed, store_failed, no_memory_stored, no_memory, StructureMeans, at_file, loaded}
use Rattle.kb_cmd_structures.specs.declared.finding.Finding.{Finding}

-- ---- it is stored and written

-- a run that stores these files
abbrev pub StoresAll : List Text → Outside → Outside → Status → Type 0
StoresAll texts before after status = IsRun (StoresMean texts) (Contains (names_of texts)) before after status

-- another status than yes isn't it
pub other-no_yes : (status : Status) → status ≢ Yes → ¬ IsYes status
other-no_yes Yes other is_yes = other refl
other-no_yes _ other is_yes = absurd is_yes

module _ (found : Found) {ends : Status} {texts : List Text} {line : List ℕ} (finds : found ends texts line) where
  stop-at_store : (before after : Outside) (status : Status) → (¬ IsYes status) → StoresMean texts before after status
      → ShowMeans found before after status
  stop-at_store before after Yes not_yes means = absurd (not_yes tt)
  stop-at_store before after Memory not_yes means = no_memory_stored finds means
  stop-at_store before after (Fault (Store name)) not_yes means = store_failed finds means
  stop-at_store before after (Fault (Load name)) not_yes means = absurd means
  stop-at_store before after (Fault Input) not_yes means = absurd means
  stop-at_store before after (Fault Output) not_yes means = absurd means
  stop-at_store before after (Refused refusal) not_yes means = absurd means
  stop-at_store before after (Undecided limit) not_yes means = absurd means
  stop-at_store before after (No cert) not_yes means = absurd means
  stop-at_store before after (Usage kind) not_yes means = absurd means

  -- the run ended at a store
  pub run-stops_at_store : (before after : Outside) (status : Status) → (¬ IsYes status) → StoresAll texts before after status
      → IsRun (ShowMeans found) (Contains (names_of texts)) before after status
  run-stops_at_store before after status not_yes run = record {
    means = λ told. stop-at_store before after status not_yes (run.means told);
    fault = run.fault;
    goes_on = run.goes_on;
    files = run.files;
  }

  module _ (old new : ShelfState) (input : SourceState) (before after : SinkState) where
    line-means : (status : Status) → HoldsTexts texts old new → LineIsWritten line ends before after status
        → ShowMeans found (outside old input before) (outside new input after) status
    line-means status holds (inl written) =
        subst (λ (s : Status). ShowMeans found (outside old input before) (outside new input after) s)
        (sym written.0) (shown finds holds refl written.1)
    line-means status holds (inr failed) =
        subst (λ (s : Status). ShowMeans found (outside old input before) (outside new input after) s)
        (sym failed.0) (output_failed finds holds refl failed.1)

    -- the files were stored, and the line was written
    pub run-shows : (status : Status) → StoresAll texts (outside old input before) (outside new input before) Yes
        → (IsTrue before.told → LineIsWritten line ends before after status)
        → FaultIsCounted (outside new input before) (outside new input after) status → SinkGoesOn before after
        → IsRun (ShowMeans found) (Contains (names_of texts)) (outside old input before) (outside new input after) status
    run-shows status stores written fault goes_on =
        let run = run-prints {Means = λ one other s. LineIsWritten line ends before after s} {MayStore = λ name. ⊥} new input before after status
        goes_on fault (λ told. written told.output) in
        record {
          means = λ told. line-means status (stores.means told).holds (run.means (told-later stores.goes_on told));
          fault = counted_after (outside old input before) (outside new input before) (outside new input after) status stores.goes_on run.fault;
          goes_on = goes_on-along stores.goes_on run.goes_on;
          files = λ name may_not. run.files name (λ never. never) ∙ stores.files name may_not;
        }

-- ---- what a finding is

module _ (finding : Finding) where
  -- what is found where the parts of the finding are
  found_by_parts : (found : Found) {status : Status} {texts : List Text} {line : List ℕ} → HasParts status texts line finding
      → found finding.status (texts_of finding.files.items) finding.line.items → found status texts line
  found_by_parts found {status} {texts} {line} parts finds =
      let S : Status → Type 0 = λ s. found s (texts_of finding.files.items) finding.line.items in
      let T : List Text → Type 0 = λ t. found status t finding.line.items in
      let W : List ℕ → Type 0 = λ l. found status texts l in
      subst W parts.writes (subst T parts.stores (subst S parts.ends finds))

  -- the finding is what is found
  pub show_found : (found : Found) {before after : Outside} {status : Status}
      → found finding.status (texts_of finding.files.items) finding.line.items
      → ShowMeans (λ s t l. HasParts s t l finding) before after status → ShowMeans found before after status
  show_found found finds (shown parts holds unread written) = shown (found_by_parts found parts finds) holds unread written
  show_found found finds (output_failed parts holds unread front) = output_failed (found_by_parts found parts finds) holds unread front
  show_found found finds (store_failed parts stops) = store_failed (found_by_parts found parts finds) stops
  show_found found finds (no_memory_stored parts first) = no_memory_stored (found_by_parts found parts finds) first
  show_found found finds (no_memory unchanged) = no_memory unchanged

  -- and what it stores may be stored
  pub run_found : (found : Found) (MayStore : List ℕ → Type 0) {before after : Outside} {status : Status}
      → found finding.status (texts_of finding.files.items) finding.line.items
      → ((name : List ℕ) → Contains (names_of (texts_of finding.files.items)) name → MayStore name)
      → IsRun (ShowMeans (λ s t l. HasParts s t l finding)) (Contains (names_of (texts_of finding.files.items))) before after status
      → IsRun (ShowMeans found) MayStore before after status
  run_found found MayStore finds may run = record {
    means = λ told. show_found found finds (run.means told);
    fault = run.fault;
    goes_on = run.goes_on;
    files = λ name may_not. run.files name (λ here. may_not (may name here));
  }

-- ---- before and after the loads

-- memory ran out before anything was found
pub nothing-run : (found : Found) (MayStore : List ℕ → Type 0) (shelf : ShelfState) (input : SourceState) (output : SinkState)
    → IsRun (ShowMeans found) MayStore (outside shelf input output) (outside shelf input output) Memory
nothing-run found MayStore shelf input output =
    run-prints shelf input output output Memory (record { told = refl; faults = omega arith }) tt
    (λ told. no_memory (unchanged-printed shelf input output output refl))

-- what a status means where nothing but loads came before
module _ (found : Found) (one read : ShelfState) (input : SourceState) (output : SinkState)
    (same : IsUnchanged (outside one input output) (outside read input output)) (after : Outside) where
  holds-later : {texts : List Text} → HoldsTexts texts read after.shelf → HoldsTexts texts one after.shelf
  holds-later holds = record { stored = holds.stored; others = λ name none. holds.others name none ∙ same.files name }

  first-later : {texts : List Text} → StoresFirst texts (outside read input output) after → StoresFirst texts (outside one input output) after
  first-later first = record {
    first = first.first;
    rest = first.rest;
    whole = first.whole;
    stores = record { unread = first.stores.unread; unwritten = first.stores.unwritten; holds = holds-later first.stores.holds };
  }

  stops-later : {texts : List Text} {name : List ℕ} → StopsAtText texts name (outside read input output) after
      → StopsAtText texts name (outside one input output) after
  stops-later stops = record {
    first = stops.first;
    text = stops.text;
    rest = stops.rest;
    whole = stops.whole;
    named = stops.named;
    unread = stops.unread;
    unwritten = stops.unwritten;
    stored = stops.stored;
    others = λ other differs none. stops.others other differs none ∙ same.files other;
  }

  pub answer-later : (status : Status) → ShowMeans found (outside read input output) after status
      → ShowMeans found (outside one input output) after status
  answer-later status (shown finds holds unread written) = shown finds (holds-later holds) unread written
  answer-later status (output_failed finds holds unread front) = output_failed finds (holds-later holds) unread front
  answer-later status (store_failed finds stops) = store_failed finds (stops-later stops)
  answer-later status (no_memory_stored finds first) = no_memory_stored finds (first-later first)
  answer-later status (no_memory unchanged) = no_memory (unchanged-later same unchanged)

module _ (found : FoundOf) (MayStore : List ℕ → Type 0) (file : List ℕ) (shelf read : ShelfState) (input : SourceState) (output : SinkState)
    (loads : OnlyLoads shelf read) where
  -- what a run means that went on after the files were loaded
  pub run-loaded : (presentation : Presentation) (acceptor : Automaton) (multipliers : List Automaton) (after : Outside) (status : Status)
      → (IsTrue shelf.told → HoldStructure shelf.holds file presentation acceptor multipliers)
      → IsRun (ShowMeans (found presentation acceptor multipliers)) MayStore (outside read input output) after status
      → IsRun (StructureMeans found file) MayStore (outside shelf input output) after status
  run-loaded presentation acceptor multipliers after status holds run =
      run-after_loads shelf read input output loads {Then = ShowMeans (found presentation acceptor multipliers)} after status run
      (λ name stored. stored)
      (λ told means. loaded (holds told.shelf)
      (answer-later (found presentation acceptor multipliers) shelf read input output (unchanged-loads shelf read input output loads) after status means))

  -- the run ended at a file
  pub run-at_file : (status : Status) → (IsTrue shelf.told → EndsAtFile shelf.holds file status)
      → FaultIsCounted (outside shelf input output) (outside read input output) status
      → IsRun (StructureMeans found file) MayStore (outside shelf input output) (outside read input output) status
  run-at_file status ends fault =
      run-ends shelf read input output loads status fault
      (λ told. at_file (ends told.shelf) (unchanged-loads shelf read input output loads))
