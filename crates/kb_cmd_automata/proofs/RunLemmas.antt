-- Runs that store or print after they loaded files.
use Rattle.std.proofs.Common.{◌≡◌, ℕ, List, IsTrue}
use Rattle.kb_io.specs.Outside.{Outside, outside, IsTold}
use Rattle.kb_io.specs.States.{ShelfState, SourceState, SinkState, SinkGoesOn}
use Rattle.kb_fsa.specs.Language.{Automaton, SameLanguage}
use Rattle.kb_task.specs.Automata.{HoldsAutomaton, HasKind, IsAutomatonFault}
use Rattle.kb_task.specs.Lines.{LimitIsPrinted}
use Rattle.kb_task.specs.Loads.{EndsAtLoad, OnlyLoads}
use Rattle.kb_task.specs.Runs.{FaultIsCounted, IsRun}
use Rattle.kb_task.specs.Stored.{StoreMeans}
use Rattle.kb_task.specs.declared.loading.automata.Kind.{Kind}
use Rattle.kb_task.specs.declared.status.Limit.{Limit}
use Rattle.kb_task.specs.declared.status.Status.{Status}
use Rattle.kb_task.proofs.RunLemmas.{run-after_loads, run-ends, run-prints, unchanged-loads}
use Rattle.kb_listing.specs.Printing.{OnlyPrints}
use Rattle.kb_listing.proofs.PrintLemmas.{only_prints, prints-later}
use Rattle.kb_cmd_automata.specs.Loaded.{MeaningOfOne, OneMeans, at_load, loaded}
use Rattle.kb_cmd_automata.specs.Make.{MakeMeans, Making, MakingMeans, IsWithin}
use Rattle.kb_cmd_automata.specs.MakeLaws.{IsKnown}
use Rattle.kb_cmd_automata.proofs.MakeLemmas.{made-same, store-means, limit-means, make-later}

module _ {Means : Outside → Outside → Status → Type 0} {MayStore : List ℕ → Type 0} (before loaded : ShelfState) (input : SourceState)
    (output : SinkState) (loads : OnlyLoads before loaded) (status : Status) where
  module _ (IsMade : Automaton → Type 0) (Exceeds : Limit → Type 0) (out : List ℕ) (names : List (List ℕ)) where
    -- what was made is stored
    pub run-stores : (made : Automaton) (stored : ShelfState)
        → IsRun (StoreMeans names made out) (λ name. name ≡ out) (outside loaded input output) (outside stored input output) status
        → ((canonical : Automaton) → canonical.alphabet ≡ made.alphabet → SameLanguage made canonical → IsMade canonical) → IsWithin Exceeds
        → ((name : List ℕ) → name ≡ out → MayStore name)
        → (IsTold (outside before input output) → MakeMeans IsMade Exceeds out names (outside before input output) (outside stored input output) status
        → Means (outside before input output) (outside stored input output) status)
        → IsRun Means MayStore (outside before input output) (outside stored input output) status
    run-stores made stored run is_made few may means =
        run-after_loads before loaded input output loads (outside stored input output) status run may
        (λ told stores. means told
        (make-later IsMade Exceeds out names (outside before input output) (outside loaded input output) (outside stored input output) status
        (unchanged-loads before loaded input output loads)
        (store-means IsMade Exceeds out names made (outside loaded input output) (outside stored input output) status is_made few stores)))

    -- the limit that was reached is printed
    pub run-limit : (limit : Limit) (written : SinkState) → (IsTrue output.told → LimitIsPrinted names limit output written status)
        → SinkGoesOn output written → FaultIsCounted (outside loaded input output) (outside loaded input written) status → Exceeds limit
        → (IsTold (outside before input output) → MakeMeans IsMade Exceeds out names (outside before input output) (outside loaded input written) status
        → Means (outside before input output) (outside loaded input written) status)
        → IsRun Means MayStore (outside before input output) (outside loaded input written) status
    run-limit limit written prints goes_on fault exceeds means =
        run-after_loads before loaded input output loads (outside loaded input written) status
        (run-prints {Means = MakeMeans IsMade Exceeds out names} {MayStore = MayStore} loaded input output written status goes_on fault
        (λ told. limit-means IsMade Exceeds out names limit loaded input output written status exceeds (prints told.output)))
        (λ name may. may)
        (λ told limited. means told
        (make-later IsMade Exceeds out names (outside before input output) (outside loaded input output) (outside loaded input written) status
        (unchanged-loads before loaded input output loads) limited))

  -- what was found is printed
  pub run-lines : (AreSo : List ℕ → List ℕ → Status → Type 0) (written : SinkState) → (IsTrue output.told → AreSo output.written written.written status)
      → SinkGoesOn output written → FaultIsCounted (outside loaded input output) (outside loaded input written) status
      → (IsTold (outside before input output) → OnlyPrints AreSo (outside before input output) (outside loaded input written) status
      → Means (outside before input output) (outside loaded input written) status)
      → IsRun Means MayStore (outside before input output) (outside loaded input written) status
  run-lines AreSo written prints goes_on fault means =
      run-after_loads before loaded input output loads (outside loaded input written) status
      (run-prints {Means = OnlyPrints AreSo} {MayStore = MayStore} loaded input output written status goes_on fault
      (λ told. only_prints AreSo loaded input output written status (prints told.output)))
      (λ name may. may)
      (λ told printed. means told
      (prints-later AreSo (outside before input output) (outside loaded input output) (outside loaded input written) status
      (unchanged-loads before loaded input output loads) printed))

-- ---- a command that makes an automaton of the one in a file

module _ {before between : ShelfState} {input : SourceState} {output : SinkState} (loads : OnlyLoads before between) {status : Status} where
  -- the load ended the run
  pub run-at_load : {kind : Kind} {file : List ℕ} {Then : MeaningOfOne} {MayStore : List ℕ → Type 0}
      → ((a : SourceState) (b : SinkState) → FaultIsCounted (outside before a b) (outside between a b) status)
      → (IsTrue before.told → EndsAtLoad (IsAutomatonFault kind before.holds file) file status)
      → IsRun (OneMeans kind file Then) MayStore (outside before input output) (outside between input output) status
  run-at_load fault ends =
      run-ends before between input output loads status (fault input output)
      (λ told. at_load (ends told.shelf) (unchanged-loads before between input output loads))

  module _ (own : Making) (Exceeds : Automaton → Limit → Type 0) {names : List (List ℕ)} {one : Automaton}
      (holds : IsTrue before.told → HoldsAutomaton before.holds own.file names one) (is_kind : HasKind own.kind one.alphabet) where
    -- what was made is stored
    pub run-made : {stored : ShelfState} (made : Automaton) → IsKnown (own.IsMade one) → own.IsMade one made → IsWithin (Exceeds one)
        → ((a : SourceState) (b : SinkState) → IsRun (StoreMeans names made own.out) (λ name. name ≡ own.out) (outside between a b) (outside stored a b) status)
        → IsRun (MakingMeans own Exceeds) (λ name. name ≡ own.out) (outside before input output) (outside stored input output) status
    run-made {stored = stored} made is_known is_made few stores =
        run-stores before between input output loads status (own.IsMade one) (Exceeds one) own.out names made stored (stores input output)
        (made-same is_known made is_made) few (λ name is. is) (λ told means. loaded (holds told.shelf) is_kind means)

    -- the limit that was reached is printed
    pub run-limited : {written : SinkState} (limit : Limit) → Exceeds one limit → (IsTrue output.told → LimitIsPrinted names limit output written status)
        → SinkGoesOn output written
        → ((a : ShelfState) (b : SourceState) → FaultIsCounted (outside a b output) (outside a b written) status)
        → IsRun (MakingMeans own Exceeds) (λ name. name ≡ own.out) (outside before input output) (outside between input written) status
    run-limited {written = written} limit exceeds prints goes_on fault =
        run-limit before between input output loads status (own.IsMade one) (Exceeds one) own.out names limit written prints goes_on
        (fault between input) exceeds (λ told means. loaded (holds told.shelf) is_kind means)
