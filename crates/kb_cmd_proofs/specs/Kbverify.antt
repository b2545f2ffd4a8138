-- What a run of `kbverify` means by its status.
use Rattle.std.specs.Prelude.{◌≡◌, ℕ, ◌⊎◌, List, [], ◌∷◌, ◌++◌, codes}
use Rattle.kb_io.specs.Bytes.{newline}
use Rattle.kb_io.specs.Outside.{Outside, IsUnchanged}
use Rattle.kb_word.specs.Presentations.{PresentationParts}
use Rattle.kb_word.specs.Relations.{relations_of}
use Rattle.kb_word.specs.WordOrders.{Below}
use Rattle.kb_proof.specs.Verifying.{VerifiedSays}
use Rattle.kb_proof.specs.declared.log.Log.{Log}
use Rattle.kb_proof.specs.declared.verified.Verified.{Verified}
use Rattle.kb_proof.specs.declared.verified.Verified.TheVariants as verdicts
use Rattle.kb_task.specs.Automata.{IsUnrefused}
use Rattle.kb_task.specs.Effects.{Writes, WritesFront}
use Rattle.kb_task.specs.Loads.{EndsAtLoad}
use Rattle.kb_task.specs.Logs.{HoldsDerivations, IsDerivationsFault}
use Rattle.kb_task.specs.Presentations.{HoldsPresentation, IsPresentationFault}
use Rattle.kb_task.specs.Promises.{Promise}
use Rattle.kb_task.specs.Reasons.{unjustified_line}
use Rattle.kb_task.specs.Refusals.{IsRefusedOfTwo}
use Rattle.kb_task.specs.Statuses.{AnswersYesOrNo, IsConclusive}
use Rattle.kb_task.specs.declared.status.Cert.TheVariants.{NotJustified}
use Rattle.kb_task.specs.declared.status.FileFault.{FileFault}
use Rattle.kb_task.specs.declared.status.Status.{Status}
use Rattle.kb_task.specs.declared.status.Status.TheVariants.{Yes, No, Memory, Fault}
use Rattle.kb_task.specs.declared.status.Which.TheVariants.{Output}
use Rattle.kb_evidence.specs.Files.{log_file}
use Rattle.kb_cmd_proofs.specs.Given.{KbverifyGiven}

-- a command stores nothing
abbrev pub StoresNothing : List ℕ → Type 0
StoresNothing name = ⊥

-- ---- the line of an answer, and its status

-- `yes`, or `no log N WHY`
abbrev pub answer_line : Verified → List ℕ
answer_line verdicts.Yes = codes "yes" ++ newline ∷ []
answer_line (verdicts.No number why) = unjustified_line number why

abbrev pub answer_status : Verified → Status
answer_status verdicts.Yes = Yes
answer_status (verdicts.No number why) = No (NotJustified number why)

-- ---- a run

-- what the answer says of the log, over the order and the relations of the presentation
abbrev pub LogSays : PresentationParts → Log → Verified → Type 0
LogSays parts log answer =
    VerifiedSays (Below parts.order) (relations_of parts.inverses parts.equations) log answer

-- What a status means once the files have been read as this presentation and this log: an answer was written that is
-- true of the log, and the status is its; or the output failed after a front of its line; or memory ran out before.
pub data CheckMeans (parts : PresentationParts) (log : Log) (before after : Outside)
    (status : Status) : Type 0 where
  answered : (answer : Verified) → LogSays parts log answer → status ≡ answer_status answer
      → Writes (answer_line answer) before after
      → CheckMeans parts log before after status
  cut_off : (answer : Verified) → LogSays parts log answer → status ≡ Fault Output
      → WritesFront (answer_line answer) before after
      → CheckMeans parts log before after status
  no_memory : status ≡ Memory → IsUnchanged before after → CheckMeans parts log before after status

-- What a status means once the file has been read as this presentation.
abbrev pub LogFileMeans : KbverifyGiven → PresentationParts → Outside → Outside → Status → Type 0
LogFileMeans given parts before after status =
    (EndsAtLoad (IsDerivationsFault parts.names before.shelf.holds (log_file given.file))
    (log_file given.file) status
    × IsUnchanged before after)
    ⊎ ((log : Log) × HoldsDerivations before.shelf.holds (log_file given.file) parts.names log
    × CheckMeans parts log before after status)

-- What a status means: the run ended at the load of the presentation, at that of the log, or both were read. Before the
-- log's name is known memory may run out.
abbrev pub KbverifyMeans : KbverifyGiven → Outside → Outside → Status → Type 0
KbverifyMeans given before after status =
    (EndsAtLoad (IsPresentationFault before.shelf.holds given.file) given.file status
    × IsUnchanged before after)
    ⊎ ((parts : PresentationParts) × HoldsPresentation before.shelf.holds given.file parts
    × LogFileMeans given parts before after status)

-- the file of the presentation has a fault; or, where it holds one, that of the log has
abbrev pub KbverifyRefuses : KbverifyGiven → Outside → List ℕ → FileFault → Type 0
KbverifyRefuses given before =
    IsRefusedOfTwo (IsPresentationFault before.shelf.holds given.file) given.file
    (HoldsPresentation before.shelf.holds given.file)
    (λ parts. IsDerivationsFault parts.names before.shelf.holds (log_file given.file))
    (log_file given.file)

-- neither the presentation nor the log is refused
pub record IsKbverifyUnrefused (given : KbverifyGiven) (before : Outside) : Type 0 where
  pub file : IsUnrefused (IsPresentationFault before.shelf.holds given.file)
  pub log : (parts : PresentationParts) → HoldsPresentation before.shelf.holds given.file parts
      → IsUnrefused (IsDerivationsFault parts.names before.shelf.holds (log_file given.file))

-- it stores nothing, and has no options; the two files settle the answer
abbrev pub kbverify_promise : KbverifyGiven → Promise KbverifyGiven
kbverify_promise given = record {
  means = KbverifyMeans given;
  may_store = StoresNothing;
  settled_stores = StoresNothing;
  reads = λ name. (name ≡ given.file) ⊎ (name ≡ log_file given.file);
  refuses = KbverifyRefuses given;
  is_unrefused = IsKbverifyUnrefused given;
  answers = AnswersYesOrNo;
  settles = IsConclusive;
  differs_in_options = λ other. given.file ≡ other.file;
}
