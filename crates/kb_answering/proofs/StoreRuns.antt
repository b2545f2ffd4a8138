-- A run that stores files, and then answers word lines or writes the line of a limit.
use Rattle.std.proofs.Common.{◌≡◌, ◌≢◌, ◌∙◌, inl, inr, ℕ, List, refl, sym, subst}
use Rattle.std.specs.Prelude.{IsTrue}
use Rattle.std.specs.List.{Contains}
use Rattle.kb_io.specs.Outside.{Outside, outside}
use Rattle.kb_io.specs.States.{ShelfState, SourceState, SinkState, SinkGoesOn}
use Rattle.kb_word.specs.Presentations.{PresentationParts}
use Rattle.kb_lines.specs.Streams.{Streams}
use Rattle.kb_task.specs.Lines.{LineIsWritten}
use Rattle.kb_task.specs.Runs.{FaultIsCounted, IsRun}
use Rattle.kb_task.specs.Statuses.{IsYes}
use Rattle.kb_task.specs.Stores.{Text, names_of, HoldsTexts, StoresTexts, StoresMean}
use Rattle.kb_task.specs.declared.status.Limit.{Limit}
use Rattle.kb_task.specs.declared.status.Refusal.TheVariants.{File, Line as RefusedLine, InputTooLong}
use Rattle.kb_task.specs.declared.status.Status.{Status}
use Rattle.kb_task.specs.declared.status.Status.TheVariants.{Yes, Refused, Undecided, No, Memory, Fault, Usage}
use Rattle.kb_task.specs.declared.status.Which.TheVariants.{Load, Store, Input, Output}
use Rattle.kb_task.proofs.RunLemmas.{goes_on-along, counted_after, told-later, run-prints}
use Rattle.kb_answering.specs.Answers.{Own, Shows, AreStored, LinesMean, AnswersMean}

-- a run that stores these files
abbrev pub StoresAll : List Text → Outside → Outside → Status → Type 0
StoresAll texts before after status = IsRun (StoresMean texts) (Contains (names_of texts)) before after status

module _ (own : Own) (shows : Shows) (parts : PresentationParts) (MayStore : List ℕ → Type 0) (texts : List Text)
    (may : (name : List ℕ) → Contains (names_of texts) name → MayStore name) where
  -- ---- files that are stored

  module _ (stored : AreStored own shows parts texts) where
    stop-at_store : (before after : Outside) (status : Status) → (¬ IsYes status) → StoresMean texts before after status
        → AnswersMean own shows parts before after status
    stop-at_store before after Yes not_yes means = absurd (not_yes tt)
    stop-at_store before after Memory not_yes means = inr (inl (texts, stored, means))
    stop-at_store before after (Fault (Store name)) not_yes means = (texts, stored, means)
    stop-at_store before after (Fault (Load name)) not_yes means = absurd means
    stop-at_store before after (Fault Input) not_yes means = absurd means
    stop-at_store before after (Fault Output) not_yes means = absurd means
    stop-at_store before after (Refused refusal) not_yes means = absurd means
    stop-at_store before after (Undecided limit) not_yes means = absurd means
    stop-at_store before after (No cert) not_yes means = absurd means
    stop-at_store before after (Usage kind) not_yes means = absurd means

    -- the run ended at a store
    pub run-stops_at_store : (before after : Outside) (status : Status) → (¬ IsYes status) → StoresAll texts before after status
        → IsRun (AnswersMean own shows parts) MayStore before after status
    run-stops_at_store before after status not_yes run = record {
      means = λ told. stop-at_store before after status not_yes (run.means told);
      fault = run.fault;
      goes_on = run.goes_on;
      files = λ name may_not. run.files name (λ here. may_not (may name here));
    }

  -- all files were stored, and then a run stored nothing
  run-after_stores : {Then : Outside → Outside → Status → Type 0} (a b c : Outside) (status : Status) → StoresAll texts a b Yes
      → IsRun Then (λ name. ⊥) b c status → (StoresTexts texts a b → Then b c status → AnswersMean own shows parts a c status)
      → IsRun (AnswersMean own shows parts) MayStore a c status
  run-after_stores a b c status stores run means = record {
    means = λ told. means (stores.means told) (run.means (told-later stores.goes_on told));
    fault = counted_after a b c status stores.goes_on run.fault;
    goes_on = goes_on-along stores.goes_on run.goes_on;
    files = λ name may_not. run.files name (λ never. never) ∙ stores.files name (λ here. may_not (may name here));
  }

  -- ---- answers to word lines

  module _ (is : own parts texts) (old new : ShelfState) where
    lines-mean : (before after : Streams) (status : Status) → HoldsTexts texts old new
        → LinesMean parts (outside new before.input before.output) (outside new after.input after.output) status
        → AnswersMean own shows parts (outside old before.input before.output) (outside new after.input after.output) status
    lines-mean before after Yes holds means = ((texts, is, holds), means)
    lines-mean before after (Refused (RefusedLine number fault)) holds means = ((texts, is, holds), means)
    lines-mean before after (Refused InputTooLong) holds means = ((texts, is, holds), means)
    lines-mean before after (Refused (File name fault)) holds means = absurd means
    lines-mean before after (Fault Input) holds means = ((texts, is, holds), means)
    lines-mean before after (Fault Output) holds means = inr ((texts, is, holds), means)
    lines-mean before after (Fault (Load name)) holds means = absurd means
    lines-mean before after (Fault (Store name)) holds means = absurd means
    lines-mean before after Memory holds means = inr (inr ((texts, is, holds), means))
    lines-mean before after (Undecided limit) holds means = absurd means
    lines-mean before after (No cert) holds means = absurd means
    lines-mean before after (Usage kind) holds means = absurd means

    -- the files that belong to the presentation were stored, and word lines answered
    pub run-answers : (before after : Streams) (status : Status)
        → StoresAll texts (outside old before.input before.output) (outside new before.input before.output) Yes
        → IsRun (LinesMean parts) (λ name. ⊥) (outside new before.input before.output) (outside new after.input after.output) status
        → IsRun (AnswersMean own shows parts) MayStore (outside old before.input before.output) (outside new after.input after.output) status
    run-answers before after status stores run =
        run-after_stores (outside old before.input before.output) (outside new before.input before.output)
        (outside new after.input after.output) status stores run
        (λ stored means. lines-mean before after status stored.holds means)

  -- ---- a limit

  module _ (limit : Limit) (line : List ℕ) (are_shown : shows parts limit texts line) (old new : ShelfState) (input : SourceState)
      (before after : SinkState) where
    limit-means : (status : Status) → HoldsTexts texts old new → LineIsWritten line (Undecided limit) before after status
        → AnswersMean own shows parts (outside old input before) (outside new input after) status
    limit-means status holds (inl written) =
        subst (λ (s : Status). AnswersMean own shows parts (outside old input before) (outside new input after) s) (sym written.0)
        (record { texts = texts; line = line; are_shown = are_shown; holds = holds; unread = refl; written = written.1 })
    limit-means status holds (inr failed) =
        subst (λ (s : Status). AnswersMean own shows parts (outside old input before) (outside new input after) s) (sym failed.0)
        (inl (record {
          limit = limit;
          texts = texts;
          line = line;
          are_shown = are_shown;
          holds = holds;
          unread = refl;
          front = failed.1;
        }))

    -- the files that show the limit were stored, and its line was printed
    pub run-shows : (status : Status) → StoresAll texts (outside old input before) (outside new input before) Yes
        → (IsTrue before.told → LineIsWritten line (Undecided limit) before after status)
        → FaultIsCounted (outside new input before) (outside new input after) status → SinkGoesOn before after
        → IsRun (AnswersMean own shows parts) MayStore (outside old input before) (outside new input after) status
    run-shows status stores written fault goes_on =
        run-after_stores (outside old input before) (outside new input before) (outside new input after) status stores
        (run-prints {Means = λ one other s. LineIsWritten line (Undecided limit) before after s} new input before after status goes_on fault
        (λ told. written told.output))
        (λ stored means. limit-means status stored.holds means)

-- ---- how the stores ended

-- there is one yes
yes_is : (status : Status) → IsYes status → status ≡ Yes
yes_is Yes is_yes = refl
yes_is _ is_yes = absurd is_yes

-- another status isn't yes
pub other-no_yes : {status : Status} → status ≢ Yes → ¬ IsYes status
other-no_yes {status} other is_yes = other (yes_is status is_yes)
