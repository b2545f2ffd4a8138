-- What a run of `wordreduce` by the lines of a log means by its status.
use Rattle.std.specs.Prelude.{◌≡◌, ◌⊎◌, ℕ, List}
use Rattle.kb_io.specs.Outside.{Outside, IsUnchanged}
use Rattle.kb_word.specs.Presentations.{PresentationParts}
use Rattle.kb_proof.specs.declared.log.Log.{Log}
use Rattle.kb_task.specs.Effects.{Writes, WritesFront}
use Rattle.kb_task.specs.Loads.{EndsAtLoad}
use Rattle.kb_task.specs.Logs.{HoldsDerivations, IsDerivationsFault}
use Rattle.kb_task.specs.Presentations.{HoldsPresentation, IsPresentationFault}
use Rattle.kb_task.specs.Stops.{stop_status}
use Rattle.kb_task.specs.declared.status.Status.{Status}
use Rattle.kb_task.specs.declared.status.Status.TheVariants.{Yes, Memory, Fault}
use Rattle.kb_task.specs.declared.status.Which.TheVariants.{Output}
use Rattle.kb_lines.specs.Answered.{AllAnswered, Stops}
use Rattle.kb_lines.specs.declared.stop.Stop.{Stop}
use Rattle.kb_evidence.specs.Files.{log_file}
use Rattle.kb_cmd_words.specs.Confluence.{IsLeastIn}
use Rattle.kb_cmd_words.specs.ByRelations.{streams_of}
use Rattle.kb_cmd_words.specs.LogLines.{Decides, Objects, objection_line, objection_status}
use Rattle.kb_cmd_words.specs.declared.objection.Objection.{Objection}

-- What a status means once the files have been read as this presentation and this log: the lines decide, and each
-- word line was answered with the least word of the presentation, or the answers stopped; or an objection was written
-- that is true of the log; or the output failed after a front of its line; or memory ran out before.
pub data LogMeans (parts : PresentationParts) (log : Log) (before after : Outside)
    (status : Status) : Type 0 where
  answered : status ≡ Yes → Decides parts log
      → AllAnswered parts (IsLeastIn parts) (streams_of before) (streams_of after)
      → LogMeans parts log before after status
  stopped : (stop : Stop) → status ≡ stop_status stop → Decides parts log
      → Stops parts (IsLeastIn parts) (streams_of before) (streams_of after) stop
      → LogMeans parts log before after status
  objected : (objection : Objection) → status ≡ objection_status objection
      → Objects parts log objection
      → Writes (objection_line parts.names objection) before after
      → LogMeans parts log before after status
  cut_off : (objection : Objection) → status ≡ Fault Output → Objects parts log objection
      → WritesFront (objection_line parts.names objection) before after
      → LogMeans parts log before after status
  no_memory : status ≡ Memory → IsUnchanged before after → LogMeans parts log before after status

-- What a status means once the file has been read as this presentation.
abbrev pub LogFileMeans : List ℕ → PresentationParts → Outside → Outside → Status → Type 0
LogFileMeans file parts before after status =
    (EndsAtLoad (IsDerivationsFault parts.names before.shelf.holds (log_file file))
    (log_file file) status
    × IsUnchanged before after)
    ⊎ ((log : Log) × HoldsDerivations before.shelf.holds (log_file file) parts.names log
    × LogMeans parts log before after status)

-- What a status means: the run ended at the load of the presentation, at that of the log, or both were read. Before the
-- log's name is known memory may run out.
abbrev pub ByLogMeans : List ℕ → Outside → Outside → Status → Type 0
ByLogMeans file before after status =
    (EndsAtLoad (IsPresentationFault before.shelf.holds file) file status
    × IsUnchanged before after)
    ⊎ ((parts : PresentationParts) × HoldsPresentation before.shelf.holds file parts
    × LogFileMeans file parts before after status)
