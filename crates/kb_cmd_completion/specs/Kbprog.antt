-- What a run of `kbprog` means by its status.
use Rattle.std.specs.Prelude.{◌≡◌, ℕ, ◌≤◌, ◌⊎◌, List, length}
use Rattle.kb_io.specs.Outside.{Outside, IsUnchanged}
use Rattle.kb_word.specs.Presentations.{PresentationParts}
use Rattle.kb_record.specs.declared.error.WordError.{WordError}
use Rattle.kb_lines.specs.WordLines.{most_input, IsFirstRefused}
use Rattle.kb_task.specs.Automata.{IsUnrefused}
use Rattle.kb_task.specs.Loads.{EndsAtLoad}
use Rattle.kb_task.specs.Presentations.{HoldsPresentation, IsPresentationFault}
use Rattle.kb_task.specs.Promises.{Promise}
use Rattle.kb_task.specs.Refusals.{IsRefusedFor}
use Rattle.kb_task.specs.Statuses.{AnswersYesOrLimit}
use Rattle.kb_task.specs.declared.status.Status.{Status}
use Rattle.kb_system.specs.Completed.{IsLeastIn}
use Rattle.kb_evidence.specs.Files.{rules_file, acceptor_file, log_file}
use Rattle.kb_answering.specs.Answers.{Own, Shows, AnswersMean}
use Rattle.kb_evidence.specs.Settled.{IsYesOrStates}
use Rattle.kb_evidence.specs.Shown.{ShowsLimit}
use Rattle.kb_cmd_completion.specs.Files.{AreCompleted}
use Rattle.kb_cmd_completion.specs.Given.{KbprogGiven}

-- the files of the completed presentation belong to it
abbrev pub kbprog_own : KbprogGiven → Own
kbprog_own given = AreCompleted given.limits given.file

-- what shows that the completion reached a limit
abbrev pub kbprog_shows : KbprogGiven → Shows
kbprog_shows given = ShowsLimit given.limits given.file

-- What each status means: the run ended at the load of the file, or the file holds a presentation.
abbrev pub KbprogMeans : KbprogGiven → Outside → Outside → Status → Type 0
KbprogMeans given before after status =
    (EndsAtLoad (IsPresentationFault before.shelf.holds given.file) given.file status
    × IsUnchanged before after)
    ⊎ ((parts : PresentationParts) × HoldsPresentation before.shelf.holds given.file parts
    × AnswersMean (kbprog_own given) (kbprog_shows given) parts before after status)

abbrev pub kbprog_may_store : KbprogGiven → List ℕ → Type 0
kbprog_may_store given name =
    (name ≡ rules_file given.file)
    ⊎ ((name ≡ acceptor_file given.file) ⊎ (name ≡ log_file given.file))

-- The file of the presentation isn't refused, nor a line of the input by the presentation that the file holds, and the
-- input isn't too long.
pub record IsKbprogUnrefused (given : KbprogGiven) (before : Outside) : Type 0 where
  pub file : IsUnrefused (IsPresentationFault before.shelf.holds given.file)
  pub lines : (parts : PresentationParts) (number : ℕ) (fault : WordError)
      → HoldsPresentation before.shelf.holds given.file parts
      → ¬ IsFirstRefused parts (IsLeastIn parts) before.input.left number fault
  pub short : length before.input.left ≤ most_input

-- Whether a limit of the log is reached, and which, may depend on the course of the completion. Another on the
-- same file is the same but for its workers, its limits and its batches.
abbrev pub kbprog_promise : KbprogGiven → Promise KbprogGiven
kbprog_promise given = record {
  means = KbprogMeans given;
  may_store = kbprog_may_store given;
  settled_stores = kbprog_may_store given;
  reads = λ name. name ≡ given.file;
  refuses = λ before. IsRefusedFor (IsPresentationFault before.shelf.holds given.file) given.file;
  is_unrefused = IsKbprogUnrefused given;
  answers = AnswersYesOrLimit;
  settles = IsYesOrStates;
  differs_in_options = λ other. given.file ≡ other.file;
}
