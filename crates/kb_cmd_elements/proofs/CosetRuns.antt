-- Runs that store the rules of marked cosets and answer word lines with least words of cosets.
use Rattle.std.proofs.Common.{◌≡◌, ◌≢◌, ◌∙◌, inl, inr, ℕ, List, [], ◌∷◌, refl, sym, subst, arith}
use Rattle.std.specs.List.{AllPairs, Contains}
use Rattle.std.proofs.lemmas.List.Elements.{Contains-push_cases}
use Rattle.kb_io.specs.Outside.{Outside, outside, IsUnchanged}
use Rattle.kb_io.specs.States.{ShelfState, SourceState, SinkState}
use Rattle.kb_lines.specs.Answered.{AllAnswered, Stops, StopIsCounted}
use Rattle.kb_lines.specs.Streams.{Streams, AreTold, StreamsGoOn}
use Rattle.kb_lines.specs.declared.stop.Stop.{Stop}
use Rattle.kb_lines.specs.declared.stop.Stop.TheVariants as stops
use Rattle.kb_coset.specs.CosetWords.{Cosets, IsLeastOf}
use Rattle.kb_evidence.specs.Files.{rules_file}
use Rattle.kb_task.specs.Runs.{FaultIsCounted, IsRun}
use Rattle.kb_task.specs.Statuses.{IsYes}
use Rattle.kb_task.specs.Stops.{stop_status}
use Rattle.kb_task.specs.Stores.{Text, names_of, HoldsTexts, StoresFirst, StopsAtText, StoresMean}
use Rattle.kb_task.specs.declared.status.Refusal.TheVariants.{File, Line as RefusedLine, InputTooLong}
use Rattle.kb_task.specs.declared.status.Status.{Status}
use Rattle.kb_task.specs.declared.status.Status.TheVariants.{Yes, Refused, Undecided, No, Memory, Fault, Usage}
use Rattle.kb_task.specs.declared.status.Which.TheVariants.{Load, Store, Input, Output}
use Rattle.kb_task.proofs.EffectLemmas.{unchanged-later}
use Rattle.kb_task.proofs.RunLemmas.{goes_on-along, counted_after, told-later}
use Rattle.kb_task.proofs.StopLemmas.{stop-counted}
use Rattle.kb_answering.specs.Answers.{streams_of}
use Rattle.kb_cmd_elements.specs.CosetAnswers.{AreCosetTexts, CosetLinesMean, CosetLinesStop, CosetsMean, HasStoredRules, subgroup_file}
use Rattle.kb_cmd_elements.specs.Given.{KbcosGiven}
use Rattle.kb_cmd_elements.specs.Kbcos.{kbcos_may_store}

-- ---- word lines

module _ (cosets : Cosets) where
  -- the answers stopped
  stop-means : (before after : Outside) (stop : Stop) → Stops cosets.parts (IsLeastOf cosets) (streams_of before) (streams_of after) stop
      → CosetLinesMean cosets before after (stop_status stop)
  stop-means before after (stops.Refused number fault) how = how
  stop-means before after stops.TooLong how = how
  stop-means before after stops.Input how = how
  stop-means before after stops.Output how = how
  stop-means before after stops.Memory how = how

  module _ (shelf : ShelfState) (before after : Streams) (goes_on : StreamsGoOn before after) where
    lines-run : (status : Status) → FaultIsCounted (outside shelf before.input before.output) (outside shelf after.input after.output) status
        → (AreTold before → CosetLinesMean cosets (outside shelf before.input before.output) (outside shelf after.input after.output) status)
        → IsRun (CosetLinesMean cosets) (λ name. ⊥) (outside shelf before.input before.output) (outside shelf after.input after.output) status
    lines-run status fault means = record {
      means = λ told. means (record { input = told.input; output = told.output });
      fault = fault;
      goes_on = record {
        shelf = record { told = refl; load_faults = omega arith; store_faults = omega arith };
        input = goes_on.input;
        output = goes_on.output;
      };
      files = λ name may_not. refl;
    }

    pub answered-run : (AreTold before → AllAnswered cosets.parts (IsLeastOf cosets) before after)
        → IsRun (CosetLinesMean cosets) (λ name. ⊥) (outside shelf before.input before.output) (outside shelf after.input after.output) Yes
    answered-run answered = lines-run Yes tt answered

    pub stop-run : (stop : Stop) (status : Status) → status ≡ stop_status stop → StopIsCounted before after stop
        → (AreTold before → Stops cosets.parts (IsLeastOf cosets) before after stop)
        → IsRun (CosetLinesMean cosets) (λ name. ⊥) (outside shelf before.input before.output) (outside shelf after.input after.output) status
    stop-run stop status is counted how =
        subst (λ (s : Status). IsRun (CosetLinesMean cosets) (λ name. ⊥) (outside shelf before.input before.output) (outside shelf after.input after.output) s)
        (sym is)
        (lines-run (stop_status stop)
        (stop-counted (outside shelf before.input before.output) (outside shelf after.input after.output) stop counted)
        (λ told. stop-means (outside shelf before.input before.output) (outside shelf after.input after.output) stop (how told)))

-- ---- the file of the rules

-- it is one file
one_name_differs : (name : List ℕ) → AllPairs (λ (one other : List ℕ). one ≢ other) (name ∷ [])
one_name_differs name i j d before within = absurd (omega (arith, before, within))

pub texts_differ : (file : List ℕ) (cosets : Cosets) (texts : List Text) → AreCosetTexts file cosets texts
    → AllPairs (λ (one other : List ℕ). one ≢ other) (names_of texts)
texts_differ file cosets texts are =
    subst (λ (t : List Text). AllPairs (λ (one other : List ℕ). one ≢ other) (names_of t)) (sym are.are)
    (one_name_differs (rules_file (subgroup_file file)))

only_name : (own name : List ℕ) → Contains (own ∷ []) name → own ≡ name
only_name own name here = elim (Contains-push_cases [] own name here) [
  | inl none ↦ (let below = none.1 in absurd (omega (arith, below)))
  | inr is ↦ is
]

-- the command may store it
pub texts_may : (given : KbcosGiven) (cosets : Cosets) (texts : List Text) → AreCosetTexts given.file cosets texts → (name : List ℕ)
    → Contains (names_of texts) name → kbcos_may_store given name
texts_may given cosets texts are name here =
    let P : List Text → Type 0 = λ t. Contains (names_of t) name in
    inl (sym (only_name (rules_file (subgroup_file given.file)) name (subst P are.are here)))

-- a run that stores these files
abbrev pub StoresAll : List Text → Outside → Outside → Status → Type 0
StoresAll texts before after status = IsRun (StoresMean texts) (Contains (names_of texts)) before after status

module _ (given : KbcosGiven) (cosets : Cosets) (texts : List Text) (are : AreCosetTexts given.file cosets texts) where
  stop-at_store : (before after : Outside) (status : Status) → (¬ IsYes status) → StoresMean texts before after status
      → CosetsMean given.file cosets before after status
  stop-at_store before after Yes not_yes means = absurd (not_yes tt)
  stop-at_store before after Memory not_yes means = inr (inl (texts, are, means))
  stop-at_store before after (Fault (Store name)) not_yes means = (texts, are, means)
  stop-at_store before after (Fault (Load name)) not_yes means = absurd means
  stop-at_store before after (Fault Input) not_yes means = absurd means
  stop-at_store before after (Fault Output) not_yes means = absurd means
  stop-at_store before after (Refused refusal) not_yes means = absurd means
  stop-at_store before after (Undecided limit) not_yes means = absurd means
  stop-at_store before after (No cert) not_yes means = absurd means
  stop-at_store before after (Usage kind) not_yes means = absurd means

  -- the run ended at the store
  pub run-stops_at_store : (before after : Outside) (status : Status) → (¬ IsYes status) → StoresAll texts before after status
      → IsRun (CosetsMean given.file cosets) (kbcos_may_store given) before after status
  run-stops_at_store before after status not_yes run = record {
    means = λ told. stop-at_store before after status not_yes (run.means told);
    fault = run.fault;
    goes_on = run.goes_on;
    files = λ name may_not. run.files name (λ here. may_not (texts_may given cosets texts are name here));
  }

  module _ (old new : ShelfState) (before after : Streams) where
    lines-mean : (status : Status) → HoldsTexts texts old new
        → CosetLinesMean cosets (outside new before.input before.output) (outside new after.input after.output) status
        → CosetsMean given.file cosets (outside old before.input before.output) (outside new after.input after.output) status
    lines-mean Yes holds means = ((texts, are, holds), means)
    lines-mean (Refused (RefusedLine number fault)) holds means = ((texts, are, holds), means)
    lines-mean (Refused InputTooLong) holds means = ((texts, are, holds), means)
    lines-mean (Refused (File name fault)) holds means = absurd means
    lines-mean (Fault Input) holds means = ((texts, are, holds), means)
    lines-mean (Fault Output) holds means = ((texts, are, holds), means)
    lines-mean (Fault (Load name)) holds means = absurd means
    lines-mean (Fault (Store name)) holds means = absurd means
    lines-mean Memory holds means = inr (inr ((texts, are, holds), means))
    lines-mean (Undecided limit) holds means = absurd means
    lines-mean (No cert) holds means = absurd means
    lines-mean (Usage kind) holds means = absurd means

    -- the rules were stored, and word lines answered
    pub run-answers : (status : Status)
        → StoresAll texts (outside old before.input before.output) (outside new before.input before.output) Yes
        → IsRun (CosetLinesMean cosets) (λ name. ⊥) (outside new before.input before.output) (outside new after.input after.output) status
        → IsRun (CosetsMean given.file cosets) (kbcos_may_store given) (outside old before.input before.output)
        (outside new after.input after.output) status
    run-answers status stores run =
        let a : Outside = outside old before.input before.output in
        let b : Outside = outside new before.input before.output in
        let c : Outside = outside new after.input after.output in
        record {
          means = λ told. lines-mean status (stores.means told).holds (run.means (told-later stores.goes_on told));
          fault = counted_after a b c status stores.goes_on run.fault;
          goes_on = goes_on-along stores.goes_on run.goes_on;
          files = λ name may_not.
              run.files name (λ never. never) ∙ stores.files name (λ here. may_not (texts_may given cosets texts are name here));
        }

-- ---- what came before

-- What is meant from a moment on at which nothing but loads had been done is meant from the moment before them.
module _ (file : List ℕ) (cosets : Cosets) (one loaded : ShelfState) (input : SourceState) (output : SinkState)
    (same : IsUnchanged (outside one input output) (outside loaded input output)) (after : Outside) where
  holds-later : {texts : List Text} → HoldsTexts texts loaded after.shelf → HoldsTexts texts one after.shelf
  holds-later holds = record { stored = holds.stored; others = λ name none. holds.others name none ∙ same.files name }

  stored-later : HasStoredRules file cosets (outside loaded input output) after → HasStoredRules file cosets (outside one input output) after
  stored-later (texts, is, holds) = (texts, is, holds-later holds)

  stop-later : {stop : Stop} → CosetLinesStop file cosets (outside loaded input output) after stop
      → CosetLinesStop file cosets (outside one input output) after stop
  stop-later stopped = (stored-later stopped.0, stopped.1)

  first-later : {texts : List Text} → StoresFirst texts (outside loaded input output) after → StoresFirst texts (outside one input output) after
  first-later first = record {
    first = first.first;
    rest = first.rest;
    whole = first.whole;
    stores = record {
      unread = first.stores.unread;
      unwritten = first.stores.unwritten;
      holds = holds-later first.stores.holds;
    };
  }

  stops-later : {texts : List Text} {name : List ℕ} → StopsAtText texts name (outside loaded input output) after
      → StopsAtText texts name (outside one input output) after
  stops-later stops = record {
    first = stops.first;
    text = stops.text;
    rest = stops.rest;
    whole = stops.whole;
    named = stops.named;
    unread = stops.unread;
    unwritten = stops.unwritten;
    stored = stops.stored;
    others = λ other differs none. stops.others other differs none ∙ same.files other;
  }

  pub cosets-later : (status : Status) → CosetsMean file cosets (outside loaded input output) after status
      → CosetsMean file cosets (outside one input output) after status
  cosets-later Yes means = (stored-later means.0, means.1)
  cosets-later (Undecided limit) means = absurd means
  cosets-later (Refused (RefusedLine number fault)) means = stop-later means
  cosets-later (Refused InputTooLong) means = stop-later means
  cosets-later (Refused (File name fault)) means = absurd means
  cosets-later (Fault Input) means = stop-later means
  cosets-later (Fault Output) means = stop-later means
  cosets-later (Fault (Store name)) means = (means.0, means.1, stops-later means.2)
  cosets-later (Fault (Load name)) means = absurd means
  cosets-later Memory (inl unchanged) = inl (unchanged-later same unchanged)
  cosets-later Memory (inr (inl (texts, stored, first))) = inr (inl (texts, stored, first-later first))
  cosets-later Memory (inr (inr stopped)) = inr (inr (stop-later stopped))
  cosets-later (No cert) means = absurd means
  cosets-later (Usage kind) means = absurd means
