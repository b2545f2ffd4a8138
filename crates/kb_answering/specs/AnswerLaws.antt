-- The laws of what the statuses of runs mean that answer word lines.
use Rattle.std.proofs.Common.{◌≡◌, ◌∙◌, inl, inr, ℕ, ◌≤◌, List, ◌++◌, length, sym, ap, subst, arith, length-append}
use Rattle.kb_io.specs.Outside.{Outside, outside, IsUnchanged}
use Rattle.kb_io.specs.States.{ShelfState, SourceState, SinkState}
use Rattle.kb_word.specs.Presentations.{PresentationParts}
use Rattle.kb_word.specs.WordOrderLaws.{word_orders}
use Rattle.kb_record.specs.declared.error.WordError.{WordError}
use Rattle.kb_lines.specs.WordLines.{most_input, IsFirstRefused}
use Rattle.kb_lines.proofs.UniqueLemmas.{one-answered}
use Rattle.kb_task.specs.Refusals.{RefusesNone}
use Rattle.kb_task.specs.Runs.{HasSameEffect, LeavesSame}
use Rattle.kb_task.specs.Statuses.{AnswersYesOrLimit, IsFaultless, IsYes}
use Rattle.kb_task.specs.Stores.{Text, HoldsTexts, StoresFirst, StopsAtText}
use Rattle.kb_task.specs.declared.status.Refusal.TheVariants.{File, Line as RefusedLine, InputTooLong}
use Rattle.kb_task.specs.declared.status.Status.{Status}
use Rattle.kb_task.specs.declared.status.Status.TheVariants.{Yes, Refused, Undecided, No, Memory, Fault, Usage}
use Rattle.kb_task.specs.declared.status.Which.TheVariants.{Load, Store, Input, Output}
use Rattle.kb_task.proofs.EffectLemmas.{unchanged-later}
use Rattle.kb_system.specs.Completed.{IsLeastIn}
use Rattle.kb_answering.specs.Answers.{Own, Shows, streams_of, HasStored, AnswersMean}
use Rattle.kb_answering.specs.NamedTexts.{named_or_not}

-- ---- what is unique

-- a word has one least word
pub one_least : (parts : PresentationParts) (w m n : List ℕ) → IsLeastIn parts w m
    → IsLeastIn parts w n → m ≡ n
one_least parts w m n one other = elim ((word_orders parts.order).total m n) [
  | inl same ↦ same
  | inr (inl less) ↦ absurd (other.least m one.congruent less)
  | inr (inr more) ↦ absurd (one.least n other.congruent more)
]

-- ---- complete

-- Where no line of the input is refused and the input isn't too long, the run answers yes or reaches a limit, but
-- where a device fails or memory runs out.
pub answers-complete : (own : Own) (shows : Shows) (parts : PresentationParts)
    (before after : Outside) (status : Status)
    → ((number : ℕ) (fault : WordError)
    → ¬ IsFirstRefused parts (IsLeastIn parts) before.input.left number fault)
    → length before.input.left ≤ most_input → IsFaultless status
    → AnswersMean own shows parts before after status → AnswersYesOrLimit status
answers-complete own shows parts before after Yes lines short faultless means = tt
answers-complete own shows parts before after (Undecided limit) lines short faultless means = tt
answers-complete own shows parts before after Memory lines short faultless means = tt
answers-complete own shows parts before after (Refused (RefusedLine number fault)) lines short
    faultless means =
    lines number fault means.1.means.refused
answers-complete own shows parts before after (Refused InputTooLong) lines short faultless means =
    let more = means.1.means.0 in
    omega (
      arith,
      more,
      short,
      ap length means.1.takes,
      length-append means.1.taken after.input.left,
    )
answers-complete own shows parts before after (Refused (File name fault)) lines short
    faultless means =
    means
answers-complete own shows parts before after (Fault which) lines short faultless means = cc
answers-complete own shows parts before after (No cert) lines short faultless means = means
answers-complete own shows parts before after (Usage kind) lines short faultless means = means

-- the run refuses no file
pub answers-refuse_none : (own : Own) (shows : Shows) (parts : PresentationParts)
    (before after : Outside) (status : Status)
    → AnswersMean own shows parts before after status → RefusesNone status
answers-refuse_none own shows parts before after (Refused (File name fault)) means = absurd means
answers-refuse_none own shows parts before after _ means = tt

-- ---- one function

-- files that were stored are the same under each name, or under it nothing changed
pub texts_same : (texts : List Text) (before after other_before other_after : Outside)
    → HoldsTexts texts before.shelf after.shelf
    → HoldsTexts texts other_before.shelf other_after.shelf
    → (name : List ℕ) → LeavesSame before after other_before other_after name
texts_same texts before after other_before other_after one other name =
    elim (named_or_not texts name) [
      | inl (text, here, is) ↦
          inl (ap after.shelf.holds (sym is) ∙ one.stored text here
          ∙ (sym (other.stored text here) ∙ ap other_after.shelf.holds is))
      | inr none ↦ inr (one.others name none, other.others name none)
    ]

-- Two runs that answered yes, where one list of files belongs to the presentation by both, have the same effect on the
-- same input.
module _ (own other_own : Own) (shows other_shows : Shows) (parts : PresentationParts)
    (one_own : (texts others : List Text) → own parts texts → other_own parts others
    → texts ≡ others)
    (MayStore : List ℕ → Type 0) (before after other_before other_after : Outside) where
  stored_same : HasStored own parts before after
      → HasStored other_own parts other_before other_after
      → (name : List ℕ) → LeavesSame before after other_before other_after name
  stored_same (texts, is, holds) (others, also, other_holds) =
      let Holds : List Text → Type 0 =
      λ t. HoldsTexts t other_before.shelf other_after.shelf in
      texts_same texts before after other_before other_after holds
      (subst Holds (sym (one_own texts others is also)) other_holds)

  pub answers-same : (status other : Status) → IsYes status → IsYes other
      → AnswersMean own shows parts before after status
      → AnswersMean other_own other_shows parts other_before other_after other
      → before.input.left ≡ other_before.input.left
      → HasSameEffect MayStore before after other_before other_after
  answers-same Yes Yes is_yes also means others same =
      let one = means.1 in
      let other = others.1 in
      let text = one-answered (streams_of before) (streams_of after) (streams_of other_before)
      (streams_of other_after) (one_least parts) one other same in
      record {
        bytes = one.given;
        written = one.sent;
        other_written = other.sent ∙ ap (λ g. other_before.output.written ++ g) (sym text);
        stored = λ name may. stored_same means.0 others.0 name;
      }
  answers-same Yes other is_yes also means others same = absurd also
  answers-same status other is_yes also means others same = absurd is_yes

-- ---- what came before

-- What is meant from a moment on at which nothing but loads had been done is meant from the moment before them.
module _ (own : Own) (shows : Shows) (parts : PresentationParts) (one loaded : ShelfState)
    (input : SourceState) (output : SinkState)
    (same : IsUnchanged (outside one input output) (outside loaded input output))
    (after : Outside) where
  holds-later : {texts : List Text} → HoldsTexts texts loaded after.shelf
      → HoldsTexts texts one after.shelf
  holds-later holds = record {
    stored = holds.stored;
    others = λ name none. holds.others name none ∙ same.files name;
  }

  stored-later : HasStored own parts (outside loaded input output) after
      → HasStored own parts (outside one input output) after
  stored-later (texts, is, holds) = (texts, is, holds-later holds)

  first-later : {texts : List Text} → StoresFirst texts (outside loaded input output) after
      → StoresFirst texts (outside one input output) after
  first-later first = record {
    first = first.first;
    rest = first.rest;
    whole = first.whole;
    stores = record {
      unread = first.stores.unread;
      unwritten = first.stores.unwritten;
      holds = holds-later first.stores.holds;
    };
  }

  stops-later : {texts : List Text} {name : List ℕ}
      → StopsAtText texts name (outside loaded input output) after
      → StopsAtText texts name (outside one input output) after
  stops-later stops = record {
    first = stops.first;
    text = stops.text;
    rest = stops.rest;
    whole = stops.whole;
    named = stops.named;
    unread = stops.unread;
    unwritten = stops.unwritten;
    stored = stops.stored;
    others = λ other differs none. stops.others other differs none ∙ same.files other;
  }

  pub answers-later : (status : Status)
      → AnswersMean own shows parts (outside loaded input output) after status
      → AnswersMean own shows parts (outside one input output) after status
  answers-later Yes means = (stored-later means.0, means.1)
  answers-later (Undecided limit) means = record {
    texts = means.texts;
    line = means.line;
    are_shown = means.are_shown;
    holds = holds-later means.holds;
    unread = means.unread;
    written = means.written;
  }
  answers-later (Refused (RefusedLine number fault)) means = (stored-later means.0, means.1)
  answers-later (Refused InputTooLong) means = (stored-later means.0, means.1)
  answers-later (Refused (File name fault)) means = absurd means
  answers-later (Fault Input) means = (stored-later means.0, means.1)
  answers-later (Fault Output) (inl front) = inl (record {
    limit = front.limit;
    texts = front.texts;
    line = front.line;
    are_shown = front.are_shown;
    holds = holds-later front.holds;
    unread = front.unread;
    front = front.front;
  })
  answers-later (Fault Output) (inr stopped) = inr (stored-later stopped.0, stopped.1)
  answers-later (Fault (Store name)) means = (means.0, means.1, stops-later means.2)
  answers-later (Fault (Load name)) means = absurd means
  answers-later Memory (inl unchanged) = inl (unchanged-later same unchanged)
  answers-later Memory (inr (inl (texts, stored, first))) =
      inr (inl (texts, stored, first-later first))
  answers-later Memory (inr (inr stopped)) = inr (inr (stored-later stopped.0, stopped.1))
  answers-later (No cert) means = absurd means
  answers-later (Usage kind) means = absurd means
