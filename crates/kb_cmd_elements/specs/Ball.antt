-- What a run of `ball` means by its status.
use Rattle.std.specs.Prelude.{◌≡◌, ℕ, ◌⊎◌, List}
use Rattle.kb_io.specs.Outside.{Outside, IsUnchanged}
use Rattle.kb_word.specs.Words.{Pair}
use Rattle.kb_word.specs.Presentations.{PresentationParts}
use Rattle.kb_word.specs.declared.word_order.WordOrder.TheVariants.{ShortLex}
use Rattle.kb_fsa.specs.Language.{Automaton}
use Rattle.kb_system.specs.Ended.{IsCompletionWithin}
use Rattle.kb_system.specs.Evidence.{Limits}
use Rattle.kb_task.specs.Automata.{IsUnrefused}
use Rattle.kb_task.specs.Loads.{EndsAtLoad}
use Rattle.kb_task.specs.Presentations.{HoldsPresentation, IsShortlexFault}
use Rattle.kb_task.specs.Promises.{Promise}
use Rattle.kb_task.specs.Refusals.{IsRefusedFor}
use Rattle.kb_task.specs.Statuses.{AnswersYesOrLimit}
use Rattle.kb_task.specs.declared.status.Status.{Status}
use Rattle.kb_evidence.specs.Files.{rules_file, log_file}
use Rattle.kb_evidence.specs.Settled.{IsYesOrStates}
use Rattle.kb_evidence.specs.Shown.{ShowsLimit}
use Rattle.kb_answering.specs.Answers.{Own, Shows, AnswersMean}
use Rattle.kb_listing.specs.Printing.{OnlyPrints}
use Rattle.kb_cmd_elements.specs.Balls.{BallIsPrinted}
use Rattle.kb_cmd_elements.specs.Given.{BallGiven}

-- no files belong to the presentation: a ball is printed, and stores none
abbrev pub no_files : Own
no_files = λ parts texts. ⊥

-- what shows that the completion reached a limit
abbrev pub ball_shows : BallGiven → Shows
ball_shows given = ShowsLimit given.limits given.file

-- some rules and some automaton complete the presentation within the limits
abbrev pub IsCompletedWithin : Limits → PresentationParts → Type 0
IsCompletedWithin limits parts =
    (rules : List Pair) × (acceptor : Automaton) × IsCompletionWithin limits parts rules acceptor

-- What each status means once the presentation has been read: it was completed within the limits and the ball was
-- printed, or a limit was shown.
abbrev pub BallAnswers : BallGiven → PresentationParts → Outside → Outside → Status → Type 0
BallAnswers given parts before after status =
    (IsCompletedWithin given.limits parts
    × OnlyPrints (BallIsPrinted parts given.radius) before after status)
    ⊎ AnswersMean no_files (ball_shows given) parts before after status

-- What each status means: the run ended at the load of the file, or the file holds a presentation by shortlex.
abbrev pub BallMeans : BallGiven → Outside → Outside → Status → Type 0
BallMeans given before after status =
    (EndsAtLoad (IsShortlexFault before.shelf.holds given.file) given.file status
    × IsUnchanged before after)
    ⊎ ((parts : PresentationParts) × HoldsPresentation before.shelf.holds given.file parts
    × (parts.order ≡ ShortLex) × BallAnswers given parts before after status)

abbrev pub ball_may_store : BallGiven → List ℕ → Type 0
ball_may_store given name = (name ≡ rules_file given.file) ⊎ (name ≡ log_file given.file)

-- Whether a limit of the log is reached, and which, may depend on the course of the completion. Another of the same
-- radius on the same file is the same but for its workers and its limits.
abbrev pub ball_promise : BallGiven → Promise BallGiven
ball_promise given = record {
  means = BallMeans given;
  may_store = ball_may_store given;
  settled_stores = ball_may_store given;
  reads = λ name. name ≡ given.file;
  refuses = λ before. IsRefusedFor (IsShortlexFault before.shelf.holds given.file) given.file;
  is_unrefused = λ before. IsUnrefused (IsShortlexFault before.shelf.holds given.file);
  answers = AnswersYesOrLimit;
  settles = IsYesOrStates;
  differs_in_options = λ other. (given.file ≡ other.file) × (given.radius ≡ other.radius);
}
