-- What a run of `wordreduce` means by its status, by the relations or by the lines of the log.
use Rattle.std.specs.Prelude.{◌≡◌, ◌⊎◌, ℕ, ◌≤◌, Bool, true, false, IsTrue, List, length}
use Rattle.kb_io.specs.Outside.{Outside}
use Rattle.kb_word.specs.Presentations.{PresentationParts}
use Rattle.kb_record.specs.declared.error.WordError.{WordError}
use Rattle.kb_task.specs.Automata.{IsUnrefused}
use Rattle.kb_task.specs.Logs.{IsDerivationsFault}
use Rattle.kb_task.specs.Presentations.{HoldsPresentation, IsPresentationFault}
use Rattle.kb_task.specs.Promises.{Promise}
use Rattle.kb_task.specs.Refusals.{IsRefusedFor, IsRefusedOfTwo}
use Rattle.kb_task.specs.Statuses.{AnswersYesOrNo, IsConclusive}
use Rattle.kb_task.specs.declared.status.FileFault.{FileFault}
use Rattle.kb_task.specs.declared.status.Status.{Status}
use Rattle.kb_lines.specs.WordLines.{most_input, IsFirstRefused}
use Rattle.kb_evidence.specs.Files.{log_file}
use Rattle.kb_cmd_words.specs.Confluence.{IsLeastIn}
use Rattle.kb_cmd_words.specs.Given.{Given}
use Rattle.kb_cmd_words.specs.ByLog.{ByLogMeans}
use Rattle.kb_cmd_words.specs.ByRelations.{ByRelationsMean, StoresNothing}

-- what each status means, where the lines of the log answer or the relations
abbrev pub MeansBy : Bool → List ℕ → Outside → Outside → Status → Type 0
MeansBy true file = ByLogMeans file
MeansBy false file = ByRelationsMean file

-- the file of the presentation is read, and that of its log where its lines answer
abbrev pub ReadsBy : Bool → List ℕ → List ℕ → Type 0
ReadsBy by_log file name = (name ≡ file) ⊎ (IsTrue by_log × (name ≡ log_file file))

-- the file of the presentation has a fault; or, where it holds one and the lines of its log answer, that of the log has
abbrev pub RefusesBy : Bool → List ℕ → Outside → List ℕ → FileFault → Type 0
RefusesBy true file before =
    IsRefusedOfTwo (IsPresentationFault before.shelf.holds file) file
    (HoldsPresentation before.shelf.holds file)
    (λ parts. IsDerivationsFault parts.names before.shelf.holds (log_file file)) (log_file file)
RefusesBy false file before = IsRefusedFor (IsPresentationFault before.shelf.holds file) file

-- The file of the presentation isn't refused, nor that of its log where its lines answer, nor a line of the input by
-- the presentation that the file holds, and the input isn't too long.
pub record IsUnrefusedBy (by_log : Bool) (file : List ℕ) (before : Outside) : Type 0 where
  pub file_is : IsUnrefused (IsPresentationFault before.shelf.holds file)
  pub log_is : IsTrue by_log → (parts : PresentationParts)
      → HoldsPresentation before.shelf.holds file parts
      → IsUnrefused (IsDerivationsFault parts.names before.shelf.holds (log_file file))
  pub lines_are : (parts : PresentationParts) (number : ℕ) (fault : WordError)
      → HoldsPresentation before.shelf.holds file parts
      → ¬ IsFirstRefused parts (IsLeastIn parts) before.input.left number fault
  pub short : length before.input.left ≤ most_input

-- One file is read, or two, and nothing is stored. Another is the same but for its workers, its batches and what
-- answers: both answer with the least words of the presentation.
abbrev pub wordreduce_promise : Given → Promise Given
wordreduce_promise given = record {
  means = MeansBy given.by_log given.file;
  may_store = StoresNothing;
  settled_stores = StoresNothing;
  reads = ReadsBy given.by_log given.file;
  refuses = RefusesBy given.by_log given.file;
  is_unrefused = IsUnrefusedBy given.by_log given.file;
  answers = AnswersYesOrNo;
  settles = IsConclusive;
  differs_in_options = λ other. given.file ≡ other.file;
}
