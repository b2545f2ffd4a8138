-- What a run of `logread` means by its status.
use Rattle.std.specs.Prelude.{◌≡◌, ℕ, ◌⊎◌, List, [], ◌∷◌, ◌++◌, length, codes, decimal, Option, Some, None}
use Rattle.kb_io.specs.Bytes.{newline}
use Rattle.kb_io.specs.Outside.{Outside, IsUnchanged}
use Rattle.kb_word.specs.Presentations.{PresentationParts}
use Rattle.kb_machine.specs.declared.line.Line.{Line}
use Rattle.kb_proof.specs.Printed.{text_of_origin}
use Rattle.kb_proof.specs.declared.log.Log.{Log}
use Rattle.kb_proof.specs.declared.log.Version.{Version}
use Rattle.kb_proof.specs.declared.log.Version.TheVariants.{One, Two}
use Rattle.kb_task.specs.Automata.{IsUnrefused}
use Rattle.kb_task.specs.Effects.{Writes, WritesFront}
use Rattle.kb_task.specs.Loads.{EndsAtLoad}
use Rattle.kb_task.specs.Logs.{HoldsLog, IsLogFault}
use Rattle.kb_task.specs.Presentations.{HoldsPresentation, IsPresentationFault}
use Rattle.kb_task.specs.Promises.{Promise}
use Rattle.kb_task.specs.Refusals.{IsRefusedOfTwo}
use Rattle.kb_task.specs.Statuses.{AnswersYes, IsYes}
use Rattle.kb_task.specs.declared.status.FileFault.{FileFault}
use Rattle.kb_task.specs.declared.status.Status.{Status}
use Rattle.kb_task.specs.declared.status.Status.TheVariants.{Yes, Memory, Fault}
use Rattle.kb_task.specs.declared.status.Which.TheVariants.{Output}
use Rattle.kb_evidence.specs.Files.{log_file}
use Rattle.kb_cmd_completion.specs.Given.{LogreadGiven}

-- a command stores nothing
abbrev pub StoresNothing : List ℕ → Type 0
StoresNothing name = ⊥

-- the number of a version
abbrev pub version_number : Version → ℕ
version_number One = 1
version_number Two = 2

-- `open ORIGIN`, or `no open`
abbrev pub open_text : Option Line → List ℕ
open_text None = codes "no open"
open_text (Some waiting) = codes "open " ++ text_of_origin waiting.origin

-- `log V: lines N, open ORIGIN`
abbrev pub logread_line : Log → List ℕ
logread_line log =
    codes "log " ++ (decimal (version_number log.version)
    ++ (codes ": lines " ++ (decimal (length log.lines.items)
    ++ (codes ", " ++ (open_text log.waiting ++ newline ∷ [])))))

-- What each status means once the files have been read as this presentation and this log.
abbrev pub LogMeans : Log → Outside → Outside → Status → Type 0
LogMeans log before after Yes = Writes (logread_line log) before after
LogMeans log before after (Fault Output) = WritesFront (logread_line log) before after
LogMeans log before after Memory = IsUnchanged before after
LogMeans log before after _ = ⊥

-- What each status means once the file has been read as this presentation.
abbrev pub LogFileMeans : LogreadGiven → PresentationParts → Outside → Outside → Status → Type 0
LogFileMeans given parts before after status =
    (EndsAtLoad (IsLogFault parts.names before.shelf.holds (log_file given.file))
    (log_file given.file) status
    × IsUnchanged before after)
    ⊎ ((log : Log) × HoldsLog before.shelf.holds (log_file given.file) parts.names log
    × LogMeans log before after status)

-- What each status means: the run ended at the load of the presentation, at that of the log, or
-- both were read. Before the log's name is known memory may run out.
abbrev pub LogreadMeans : LogreadGiven → Outside → Outside → Status → Type 0
LogreadMeans given before after status =
    (EndsAtLoad (IsPresentationFault before.shelf.holds given.file) given.file status
    × IsUnchanged before after)
    ⊎ ((parts : PresentationParts) × HoldsPresentation before.shelf.holds given.file parts
    × LogFileMeans given parts before after status)

-- the file of the presentation has a fault; or, where it holds one, that of the log has
abbrev pub LogreadRefuses : LogreadGiven → Outside → List ℕ → FileFault → Type 0
LogreadRefuses given before =
    IsRefusedOfTwo (IsPresentationFault before.shelf.holds given.file) given.file
    (HoldsPresentation before.shelf.holds given.file)
    (λ parts. IsLogFault parts.names before.shelf.holds (log_file given.file))
    (log_file given.file)

-- neither the presentation nor the log is refused
pub record IsLogreadUnrefused (given : LogreadGiven) (before : Outside) : Type 0 where
  pub file : IsUnrefused (IsPresentationFault before.shelf.holds given.file)
  pub log : (parts : PresentationParts) → HoldsPresentation before.shelf.holds given.file parts
      → IsUnrefused (IsLogFault parts.names before.shelf.holds (log_file given.file))

-- it stores nothing, and has no options
abbrev pub logread_promise : LogreadGiven → Promise LogreadGiven
logread_promise given = record {
  means = LogreadMeans given;
  may_store = StoresNothing;
  settled_stores = StoresNothing;
  reads = λ name. (name ≡ given.file) ⊎ (name ≡ log_file given.file);
  refuses = LogreadRefuses given;
  is_unrefused = IsLogreadUnrefused given;
  answers = AnswersYes;
  settles = IsYes;
  differs_in_options = λ other. given.file ≡ other.file;
}
