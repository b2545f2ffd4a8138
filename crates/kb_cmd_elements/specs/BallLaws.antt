-- The laws of what the statuses of `ball` mean.
use Rattle.std.proofs.Common.{◌≡◌, ◌∙◌, inl, inr, ℕ, List, ◌++◌, refl, sym, ap, subst}
use Rattle.std.specs.List.{Contains}
use Rattle.kb_io.specs.Outside.{Outside}
use Rattle.kb_word.specs.Presentations.{PresentationParts}
use Rattle.kb_task.specs.OneReason.{HoldsShortlex}
use Rattle.kb_task.specs.Presentations.{HoldsPresentation, IsShortlexFault}
use Rattle.kb_task.specs.PromiseLaws.{yes-conclusive}
use Rattle.kb_task.specs.Promises.{IsLawful}
use Rattle.kb_task.specs.Refusals.{RefusesNone}
use Rattle.kb_task.specs.Runs.{HasSameEffect, ReadsSame}
use Rattle.kb_task.specs.Automata.{IsUnrefused}
use Rattle.kb_task.specs.Statuses.{AnswersYesOrLimit, IsFaultless, IsYes}
use Rattle.kb_task.specs.declared.status.Refusal.TheVariants.{File, Line as RefusedLine, InputTooLong}
use Rattle.kb_task.specs.declared.status.Status.{Status}
use Rattle.kb_task.specs.declared.status.Status.TheVariants.{Yes, Refused, Undecided, No, Memory, Fault, Usage}
use Rattle.kb_task.proofs.LoadEnds.{memory_at_load, load_inconclusive, one_presentation_held}
use Rattle.kb_task.proofs.RefusalLemmas.{ReadsOne, ends_there, reads_it, exact_of_one, refused_of_one}
use Rattle.kb_evidence.specs.Settled.{IsYesOrStates, CompletesAs, within_limits}
use Rattle.kb_evidence.specs.SettledLaws.{one_end, states-completes, states-conclusive}
use Rattle.kb_answering.specs.Answers.{AnswersMean}
use Rattle.kb_answering.specs.AnswerLaws.{answers-refuse_none, one_least}
use Rattle.kb_listing.specs.Asked.{lines_of_words}
use Rattle.kb_listing.specs.AskedLaws.{AreAmong, one_ascending}
use Rattle.kb_listing.specs.Printing.{OnlyPrints}
use Rattle.kb_cmd_elements.specs.Ball.{IsCompletedWithin, BallAnswers, BallMeans, ball_may_store, ball_promise, ball_shows, no_files}
use Rattle.kb_cmd_elements.specs.Balls.{IsBall, BallIsPrinted, printed, failed, no_memory}
use Rattle.kb_cmd_elements.specs.Given.{BallGiven}

-- ---- what is unique

module _ (parts : PresentationParts) (radius : ℕ) where
  -- the words of one ball are among those of another
  words_among : (words others : List (List ℕ)) → IsBall parts radius words → IsBall parts radius others
      → AreAmong words others
  words_among words others one other word here =
      let is = one.first.inside word here in
      let found = other.elements word is.over is.short in
      let same : found.0 ≡ word = one_least parts word found.0 word found.1 is.least in
      subst (λ w. Contains others w) same found.2

  -- there is one ball of a radius
  one_ball : (words others : List (List ℕ)) → IsBall parts radius words → IsBall parts radius others
      → words ≡ others
  one_ball words others one other =
      one_ascending words others one.first.ascend other.first.ascend
      (words_among words others one other) (words_among others words other one)

  -- the ball that a yes wrote
  record WroteBall (before after : List ℕ) : Type 0 where
    words : List (List ℕ)
    ball : IsBall parts radius words
    written : after ≡ before ++ lines_of_words parts.names words

  wrote_ball : (before after : List ℕ) (status : Status) → IsYes status
      → BallIsPrinted parts radius before after status → WroteBall before after
  wrote_ball before after status is_yes (printed {words = words} ball is) =
      record { words = words; ball = ball; written = is }
  wrote_ball before after status is_yes (failed front) = absurd is_yes
  wrote_ball before after status is_yes (no_memory front) = absurd is_yes

  printed_answers : (before after : List ℕ) (status : Status) → IsFaultless status
      → BallIsPrinted parts radius before after status → AnswersYesOrLimit status
  printed_answers before after status faultless (printed ball is) = tt
  printed_answers before after status faultless (failed front) = cc
  printed_answers before after status faultless (no_memory front) = tt

  printed_refuses_none : (before after : List ℕ) (status : Status)
      → BallIsPrinted parts radius before after status → RefusesNone status
  printed_refuses_none before after status (printed ball is) = tt
  printed_refuses_none before after status (failed front) = tt
  printed_refuses_none before after status (no_memory front) = tt

module _ (given : BallGiven) (parts : PresentationParts) (before after : Outside) where
  -- where a limit was shown, that is the answer
  limit_answers : (status : Status) → IsFaultless status
      → AnswersMean no_files (ball_shows given) parts before after status → AnswersYesOrLimit status
  limit_answers Yes faultless means = tt
  limit_answers (Undecided limit) faultless means = tt
  limit_answers Memory faultless means = tt
  limit_answers (Refused (RefusedLine number fault)) faultless means = absurd means.0.1
  limit_answers (Refused InputTooLong) faultless means = absurd means.0.1
  limit_answers (Refused (File name fault)) faultless means = absurd means
  limit_answers (Fault which) faultless means = cc
  limit_answers (No cert) faultless means = absurd means
  limit_answers (Usage kind) faultless means = absurd means

  ball_answers : (status : Status) → IsFaultless status → BallAnswers given parts before after status
      → AnswersYesOrLimit status
  ball_answers status faultless (inl done) =
      printed_answers parts given.radius before.output.written after.output.written status faultless
      done.1.so
  ball_answers status faultless (inr limit) = limit_answers status faultless limit

  -- no file is refused
  ball_refuses_none : (status : Status) → BallAnswers given parts before after status
      → RefusesNone status
  ball_refuses_none status (inl done) =
      printed_refuses_none parts given.radius before.output.written after.output.written status
      done.1.so
  ball_refuses_none status (inr limit) =
      answers-refuse_none no_files (ball_shows given) parts before after status limit

  -- a yes printed the ball
  yes_prints : (status : Status) → IsYes status → BallAnswers given parts before after status
      → OnlyPrints (BallIsPrinted parts given.radius) before after status
  yes_prints status is_yes (inl done) = done.1
  yes_prints Yes is_yes (inr limit) = absurd limit.0.1
  yes_prints _ is_yes (inr limit) = absurd is_yes

  -- a status that the file settles is that of a completion that came to its end
  print_completes : (status : Status) → IsYesOrStates status
      → IsCompletedWithin given.limits parts
      → BallIsPrinted parts given.radius before.output.written after.output.written status
      → CompletesAs given.limits parts status
  print_completes status settled completed (printed ball is) = within_limits completed.2
  print_completes status settled completed (failed front) = absurd settled
  print_completes status settled completed (no_memory front) = absurd settled

  limit_completes : (status : Status) → IsYesOrStates status
      → AnswersMean no_files (ball_shows given) parts before after status
      → CompletesAs given.limits parts status
  limit_completes Yes settled means = absurd means.0.1
  limit_completes (Undecided limit) settled means = states-completes means.are_shown settled
  limit_completes _ settled means = absurd settled

  completes : (status : Status) → IsYesOrStates status → BallAnswers given parts before after status
      → CompletesAs given.limits parts status
  completes status settled (inl done) = print_completes status settled done.0 done.1.so
  completes status settled (inr limit) = limit_completes status settled limit

-- ---- complete

complete : (given : BallGiven) (before after : Outside) (status : Status)
    → BallMeans given before after status
    → IsUnrefused (IsShortlexFault before.shelf.holds given.file) → IsFaultless status
    → AnswersYesOrLimit status
complete given before after status (inl means) unrefused faultless =
    subst AnswersYesOrLimit
    (sym (memory_at_load (IsShortlexFault before.shelf.holds given.file) given.file status unrefused
    faultless means.0)) tt
complete given before after status (inr means) unrefused faultless =
    ball_answers given means.0 before after status faultless means.3

-- ---- refused files

reads : (given : BallGiven) (before after : Outside) (status : Status)
    → BallMeans given before after status
    → ReadsOne (IsShortlexFault before.shelf.holds given.file) given.file
    ((parts : PresentationParts) × HoldsShortlex before.shelf.holds given.file parts) status
reads given before after status (inl means) = ends_there means.0
reads given before after status (inr means) =
    reads_it (means.0, (means.1, means.2))
    (ball_refuses_none given means.0 before after status means.3)

-- ---- settled

settled : (given : BallGiven) (before after other_before other_after : Outside)
    (status other : Status)
    → BallMeans given before after status → BallMeans given other_before other_after other
    → ReadsSame (ball_promise given).reads before other_before
    → IsYesOrStates status → IsYesOrStates other → status ≡ other
settled given before after other_before other_after status other (inl means) others same one also =
    absurd (load_inconclusive (IsShortlexFault before.shelf.holds given.file) given.file status
    means.0 (states-conclusive status one))
settled given before after other_before other_after status other (inr means) (inl others) same
    one also =
    absurd (load_inconclusive (IsShortlexFault other_before.shelf.holds given.file) given.file other
    others.0 (states-conclusive other also))
settled given before after other_before other_after status other (inr means) (inr others) same
    one also =
    let parts : means.0 ≡ others.0 = one_presentation_held (same given.file refl) means.1 others.1 in
    let Completes : PresentationParts → Type 0 = λ p. CompletesAs given.limits p status in
    one_end (subst Completes parts (completes given means.0 before after status one means.3))
    (completes given others.0 other_before other_after other also others.3)

-- ---- one function

one_function : (given other_given : BallGiven)
    (before after other_before other_after : Outside) (status other : Status)
    → BallMeans given before after status → BallMeans other_given other_before other_after other
    → IsYes status → IsYes other
    → (given.file ≡ other_given.file) × (given.radius ≡ other_given.radius)
    → ReadsSame (ball_promise given).reads before other_before
    → HasSameEffect (ball_may_store given) before after other_before other_after
one_function given other_given before after other_before other_after status other
    (inl means) others is_yes also alike same =
    absurd (load_inconclusive (IsShortlexFault before.shelf.holds given.file) given.file status
    means.0 (yes-conclusive status is_yes))
one_function given other_given before after other_before other_after status other (inr means)
    (inl others) is_yes also alike same =
    absurd (load_inconclusive (IsShortlexFault other_before.shelf.holds other_given.file)
    other_given.file other others.0 (yes-conclusive other also))
one_function given other_given before after other_before other_after status other (inr means)
    (inr others) is_yes also alike same =
    let Holds : List ℕ → Type 0 = λ name. HoldsPresentation other_before.shelf.holds name others.0 in
    let held = subst Holds (sym alike.0) others.1 in
    let parts : means.0 ≡ others.0 = one_presentation_held (same given.file refl) means.1 held in
    let P : PresentationParts → Type 0 = λ p. BallAnswers given p before after status in
    let R : ℕ → Type 0 =
    λ r. BallIsPrinted others.0 r other_before.output.written other_after.output.written other in
    let mine = yes_prints given others.0 before after status is_yes (subst P parts means.3) in
    let theirs = yes_prints other_given others.0 other_before other_after other also others.3 in
    let one = wrote_ball others.0 given.radius before.output.written after.output.written status
    is_yes mine.so in
    let two = wrote_ball others.0 given.radius other_before.output.written
    other_after.output.written other also (subst R (sym alike.1) theirs.so) in
    let text = one_ball others.0 given.radius two.words one.words two.ball one.ball in
    record {
      bytes = lines_of_words others.0.names one.words;
      written = one.written;
      other_written =
          two.written
          ∙ ap (λ words. other_before.output.written ++ lines_of_words others.0.names words) text;
      stored = λ name may. inr (mine.files name, theirs.files name);
    }

pub ball_lawful : (given : BallGiven) → IsLawful ball_promise (ball_promise given)
ball_lawful given = record {
  complete = complete given;
  memory = tt;
  refused = λ before after name fault means at_load.
      refused_of_one name fault (reads given before after (Refused (File name fault)) means) at_load;
  exact = λ have before after status name fault means refuses faultless.
      exact_of_one name fault (have.shortlex before.shelf.holds given.file) status
      (reads given before after status means) refuses faultless;
  settled = settled given;
  conclusive = states-conclusive;
  one_function = λ other_given before after other_before other_after status other means others
      is_yes also alike same input.
      one_function given other_given before after other_before other_after status other means others
      is_yes also alike same;
}
