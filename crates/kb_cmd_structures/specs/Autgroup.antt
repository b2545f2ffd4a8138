-- What a run of `autgroup` means by its status.
use Rattle.std.specs.Prelude.{◌≡◌, ℕ, ◌≤◌, List, length}
use Rattle.kb_io.specs.Outside.{Outside, IsUnchanged}
use Rattle.kb_word.specs.Presentations.{PresentationParts}
use Rattle.kb_record.specs.declared.error.WordError.{WordError}
use Rattle.kb_lines.specs.WordLines.{most_input, IsFirstRefused}
use Rattle.kb_system.specs.Completed.{IsLeastIn}
use Rattle.kb_task.specs.Automata.{IsUnrefused}
use Rattle.kb_task.specs.Loads.{EndsAtLoad}
use Rattle.kb_task.specs.Presentations.{HoldsGroup, HoldsPresentation, IsGroupFault}
use Rattle.kb_task.specs.Promises.{Promise}
use Rattle.kb_task.specs.Refusals.{IsRefusedFor}
use Rattle.kb_task.specs.Statuses.{AnswersYesOrLimit, IsYes}
use Rattle.kb_task.specs.Stores.{Text}
use Rattle.kb_task.specs.declared.status.Limit.{Limit}
use Rattle.kb_task.specs.declared.status.Status.{Status}
use Rattle.kb_answering.specs.Answers.{AnswersMean}
use Rattle.kb_evidence.specs.Files.{acceptor_file, difference_file, log_file, multiplier_file, rules_file}
use Rattle.kb_cmd_structures.specs.Given.{AutgroupGiven}
use Rattle.kb_cmd_structures.specs.Made.{AreMade}
use Rattle.kb_cmd_structures.specs.Tried.{ShowsLimit}

-- the files of the group's automatic structure, and the files and lines that show a limit
abbrev pub autgroup_own : AutgroupGiven → PresentationParts → List Text → Type 0
autgroup_own given = AreMade given.file

abbrev pub autgroup_shows : AutgroupGiven → PresentationParts → Limit → List Text → List ℕ
    → Type 0
autgroup_shows given = ShowsLimit given

-- What each status means: the run ended at the load of the file; or the file holds a group, whose automatic structure
-- was stored and whose words were answered with least words, or a limit is shown.
pub data AutgroupMeans (given : AutgroupGiven) (before after : Outside) (status : Status)
    : Type 0 where
  at_file : EndsAtLoad (IsGroupFault before.shelf.holds given.file) given.file status
      → IsUnchanged before after
      → AutgroupMeans given before after status
  loaded : {parts : PresentationParts} → HoldsGroup before.shelf.holds given.file parts
      → AnswersMean (autgroup_own given) (autgroup_shows given) parts before after status
      → AutgroupMeans given before after status

-- it may store the word acceptor and the multipliers, and what shows a limit: the log, the rules and the differences
pub data AutgroupMayStore (given : AutgroupGiven) (name : List ℕ) : Type 0 where
  stores_acceptor : name ≡ acceptor_file given.file → AutgroupMayStore given name
  stores_multiplier : (x : ℕ) → name ≡ multiplier_file given.file x → AutgroupMayStore given name
  stores_log : name ≡ log_file given.file → AutgroupMayStore given name
  stores_rules : name ≡ rules_file given.file → AutgroupMayStore given name
  stores_differences : name ≡ difference_file given.file → AutgroupMayStore given name

-- The file of the group isn't refused, nor a line of the input by the presentation that the file holds, and the input
-- isn't too long.
pub record IsAutgroupUnrefused (given : AutgroupGiven) (before : Outside) : Type 0 where
  pub file : IsUnrefused (IsGroupFault before.shelf.holds given.file)
  pub lines : (parts : PresentationParts) (number : ℕ) (fault : WordError)
      → HoldsPresentation before.shelf.holds given.file parts
      → ¬ IsFirstRefused parts (IsLeastIn parts) before.input.left number fault
  pub short : length before.input.left ≤ most_input

-- Which limit is reached may depend on the course of the completion. Another on the same file is the same but for its
-- workers, its limits and its batches.
abbrev pub autgroup_promise : AutgroupGiven → Promise AutgroupGiven
autgroup_promise given = record {
  means = AutgroupMeans given;
  may_store = AutgroupMayStore given;
  settled_stores = AutgroupMayStore given;
  reads = λ name. name ≡ given.file;
  refuses = λ before. IsRefusedFor (IsGroupFault before.shelf.holds given.file) given.file;
  is_unrefused = IsAutgroupUnrefused given;
  answers = AnswersYesOrLimit;
  settles = IsYes;
  differs_in_options = λ other. given.file ≡ other.file;
}
