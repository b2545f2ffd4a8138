-- The laws of what the statuses of `wordreduce` by the lines of a log mean.
use Rattle.std.proofs.Common.{◌≡◌, ◌∙◌, inl, inr, Option, Some, None, List, ℕ, length, refl, sym, ap, subst, arith, length-append}
use Rattle.std.specs.Prelude.{true}
use Rattle.kb_io.specs.Outside.{Outside}
use Rattle.kb_word.specs.Presentations.{PresentationParts}
use Rattle.kb_proof.specs.declared.log.Log.{Log}
use Rattle.kb_task.specs.Logs.{HoldsDerivations, IsDerivationsFault}
use Rattle.kb_task.specs.Presentations.{HoldsPresentation, IsPresentationFault}
use Rattle.kb_task.specs.PromiseLaws.{yes-conclusive}
use Rattle.kb_task.specs.Refusals.{RefusesNone}
use Rattle.kb_task.specs.Statuses.{AnswersYesOrNo, IsConclusive, IsFaultless, IsYes}
use Rattle.kb_task.specs.Stops.{stop_status}
use Rattle.kb_task.specs.declared.status.Status.{Status}
use Rattle.kb_task.specs.declared.status.Status.TheVariants.{Yes, Fault}
use Rattle.kb_task.specs.declared.status.Which.TheVariants.{Output}
use Rattle.kb_task.proofs.HeldLogs.{one_log_held}
use Rattle.kb_task.proofs.LoadEnds.{memory_at_load, load_inconclusive, one_presentation_held}
use Rattle.kb_task.proofs.RefusalLemmas.{ReadsTwo, ends_first, ends_next, reads_both}
use Rattle.kb_task.proofs.StoredLogs.{names_apart}
use Rattle.kb_lines.specs.Answered.{Stops}
use Rattle.kb_lines.specs.declared.stop.Stop.{Stop}
use Rattle.kb_lines.specs.declared.stop.Stop.TheVariants as stops
use Rattle.kb_evidence.specs.Files.{log_file}
use Rattle.kb_cmd_words.specs.Answering.{HasAnswered}
use Rattle.kb_cmd_words.specs.ByLog.{ByLogMeans, LogFileMeans, LogMeans, answered, stopped, objected, cut_off, no_memory}
use Rattle.kb_cmd_words.specs.ByRelations.{streams_of}
use Rattle.kb_cmd_words.specs.Confluence.{IsLeastIn}
use Rattle.kb_cmd_words.specs.LogLineLaws.{IsFound, one_finding}
use Rattle.kb_cmd_words.specs.LogLines.{objection_status}
use Rattle.kb_cmd_words.specs.WordReduce.{IsUnrefusedBy}
use Rattle.kb_cmd_words.specs.declared.objection.Objection.{Objection}
use Rattle.kb_cmd_words.specs.declared.objection.Objection.TheVariants as objections

-- ---- an answer where nothing is refused

objection_answers : (objection : Objection) → AnswersYesOrNo (objection_status objection)
objection_answers (objections.Unjustified number why) = tt
objection_answers (objections.RelationApart number u v) = tt
objection_answers (objections.NotConfluent u v) = tt

output_failed : ¬ IsFaultless (Fault Output)
output_failed faultless = cc

-- where no word line is refused and no device failed, the answers stop for want of memory only
stop_answers : (file : List ℕ) (parts : PresentationParts) (before after : Outside) (stop : Stop)
    → HoldsPresentation before.shelf.holds file parts → IsUnrefusedBy true file before
    → IsFaultless (stop_status stop)
    → Stops parts (IsLeastIn parts) (streams_of before) (streams_of after) stop
    → AnswersYesOrNo (stop_status stop)
stop_answers file parts before after (stops.Refused number fault) holds unrefused faultless how =
    absurd (unrefused.lines_are parts number fault holds how.means.refused)
stop_answers file parts before after stops.TooLong holds unrefused faultless how =
    let more = how.means.0 in
    let short = unrefused.short in
    absurd (omega (
      arith,
      more,
      short,
      ap length how.takes,
      length-append how.taken
          after.input.left,
    ))
stop_answers file parts before after stops.Input holds unrefused faultless how = cc
stop_answers file parts before after stops.Output holds unrefused faultless how = cc
stop_answers file parts before after stops.Memory holds unrefused faultless how = tt

lines_answer : (file : List ℕ) (parts : PresentationParts) (log : Log) (before after : Outside)
    (status : Status)
    → HoldsPresentation before.shelf.holds file parts → IsUnrefusedBy true file before
    → IsFaultless status
    → LogMeans parts log before after status → AnswersYesOrNo status
lines_answer file parts log before after status holds unrefused faultless
    (answered is decides all) =
    subst AnswersYesOrNo (sym is) tt
lines_answer file parts log before after status holds unrefused faultless
    (stopped stop is decides how) =
    subst AnswersYesOrNo (sym is)
    (stop_answers file parts before after stop holds unrefused (subst IsFaultless is faultless) how)
lines_answer file parts log before after status holds unrefused faultless
    (objected objection is says writes) =
    subst AnswersYesOrNo (sym is) (objection_answers objection)
lines_answer file parts log before after status holds unrefused faultless
    (cut_off objection is says front) =
    absurd (output_failed (subst IsFaultless is faultless))
lines_answer file parts log before after status holds unrefused faultless
    (no_memory is unchanged) =
    subst AnswersYesOrNo (sym is) tt

file_answers : (file : List ℕ) (parts : PresentationParts) (before after : Outside)
    (status : Status)
    → HoldsPresentation before.shelf.holds file parts → IsUnrefusedBy true file before
    → IsFaultless status
    → LogFileMeans file parts before after status → AnswersYesOrNo status
file_answers file parts before after status holds unrefused faultless (inl ends) =
    let is_memory =
    memory_at_load
    (IsDerivationsFault parts.names before.shelf.holds (log_file file))
    (log_file file) status
    (unrefused.log_is refl parts holds) faultless ends.0 in
    subst AnswersYesOrNo (sym is_memory) tt
file_answers file parts before after status holds unrefused faultless (inr read) =
    lines_answer file parts read.0 before after status holds unrefused faultless read.2

pub log_complete : (file : List ℕ) (before after : Outside) (status : Status)
    → ByLogMeans file before after status
    → IsUnrefusedBy true file before → IsFaultless status → AnswersYesOrNo status
log_complete file before after status (inl ends) unrefused faultless =
    let is_memory =
    memory_at_load (IsPresentationFault before.shelf.holds file) file
    status unrefused.file_is
    faultless ends.0 in
    subst AnswersYesOrNo (sym is_memory) tt
log_complete file before after status (inr read) unrefused faultless =
    file_answers file read.0 before after status read.1 unrefused faultless read.2

-- ---- refused files

objection_refuses_none : (objection : Objection) → RefusesNone (objection_status objection)
objection_refuses_none (objections.Unjustified number why) = tt
objection_refuses_none (objections.RelationApart number u v) = tt
objection_refuses_none (objections.NotConfluent u v) = tt

stop_refuses_none : (stop : Stop) → RefusesNone (stop_status stop)
stop_refuses_none (stops.Refused number fault) = tt
stop_refuses_none stops.TooLong = tt
stop_refuses_none stops.Input = tt
stop_refuses_none stops.Output = tt
stop_refuses_none stops.Memory = tt

lines_refuse_none : (parts : PresentationParts) (log : Log) (before after : Outside)
    (status : Status) → LogMeans parts log before after status → RefusesNone status
lines_refuse_none parts log before after status (answered is decides all) =
    subst RefusesNone (sym is) tt
lines_refuse_none parts log before after status (stopped stop is decides how) =
    subst RefusesNone (sym is) (stop_refuses_none stop)
lines_refuse_none parts log before after status (objected objection is says writes) =
    subst RefusesNone (sym is) (objection_refuses_none objection)
lines_refuse_none parts log before after status (cut_off objection is says front) =
    subst RefusesNone (sym is) tt
lines_refuse_none parts log before after status (no_memory is unchanged) =
    subst RefusesNone (sym is) tt

-- how far a run came with its files
pub log_read : (file : List ℕ) (before after : Outside) (status : Status)
    → ByLogMeans file before after status
    → ReadsTwo (IsPresentationFault before.shelf.holds file) file
    (HoldsPresentation before.shelf.holds file)
    (λ parts. IsDerivationsFault parts.names before.shelf.holds (log_file file)) (log_file file)
    (λ parts. (log : Log) × HoldsDerivations before.shelf.holds (log_file file) parts.names log)
    status
log_read file before after status (inl ends) = ends_first ends.0
log_read file before after status (inr (parts, holds, inl ends)) = ends_next parts holds ends.0
log_read file before after status (inr (parts, holds, inr (log, held, means))) =
    reads_both parts holds (log, held) (lines_refuse_none parts log before after status means)

-- ---- one answer

-- the status of a run that found this
abbrev status_of : Option Objection → Status
status_of None = Yes
status_of (Some objection) = objection_status objection

-- what a yes or no found of the log over this presentation
record HasFound (file : List ℕ) (parts : PresentationParts) (before : Outside)
    (status : Status) : Type 0 where
  log : Log
  holds : HoldsDerivations before.shelf.holds (log_file file) parts.names log
  found : Option Objection
  says : IsFound parts log found
  is : status ≡ status_of found

stops_inconclusive : (stop : Stop) → ¬ IsConclusive (stop_status stop)
stops_inconclusive (stops.Refused number fault) conclusive = conclusive
stops_inconclusive stops.TooLong conclusive = conclusive
stops_inconclusive stops.Input conclusive = conclusive
stops_inconclusive stops.Output conclusive = conclusive
stops_inconclusive stops.Memory conclusive = conclusive

found_of_log : (file : List ℕ) (parts : PresentationParts) (before after : Outside)
    (status : Status) (log : Log) → IsConclusive status
    → HoldsDerivations before.shelf.holds (log_file file) parts.names log
    → LogMeans parts log before after status → HasFound file parts before status
found_of_log file parts before after status log conclusive holds (answered is decides all) =
    record { log = log; holds = holds; found = None; says = decides; is = is }
found_of_log file parts before after status log conclusive holds (stopped stop is decides how) =
    absurd (stops_inconclusive stop (subst IsConclusive is conclusive))
found_of_log file parts before after status log conclusive holds
    (objected objection is says writes) =
    record { log = log; holds = holds; found = Some objection; says = says; is = is }
found_of_log file parts before after status log conclusive holds
    (cut_off objection is says front) =
    absurd (subst IsConclusive is conclusive)
found_of_log file parts before after status log conclusive holds (no_memory is unchanged) =
    absurd (subst IsConclusive is conclusive)

found_of_file : (file : List ℕ) (parts : PresentationParts) (before after : Outside)
    (status : Status) → IsConclusive status
    → LogFileMeans file parts before after status → HasFound file parts before status
found_of_file file parts before after status conclusive (inl ends) =
    absurd (load_inconclusive
    (IsDerivationsFault parts.names before.shelf.holds (log_file file))
    (log_file file) status ends.0 conclusive)
found_of_file file parts before after status conclusive (inr read) =
    found_of_log file parts before after status read.0 conclusive read.1 read.2

-- the presentation that a yes or no is about, and what was found of its log
record HasFoundBoth (file : List ℕ) (before : Outside) (status : Status) : Type 0 where
  parts : PresentationParts
  presents : HoldsPresentation before.shelf.holds file parts
  finding : HasFound file parts before status

found_of_both : (file : List ℕ) (before after : Outside) (status : Status)
    → IsConclusive status → ByLogMeans file before after status
    → HasFoundBoth file before status
found_of_both file before after status conclusive (inl ends) =
    absurd (load_inconclusive (IsPresentationFault before.shelf.holds file)
    file status ends.0 conclusive)
found_of_both file before after status conclusive (inr read) =
    record {
      parts = read.0;
      presents = read.1;
      finding = found_of_file file read.0 before after status conclusive read.2;
    }

-- files of the same bytes have one answer
one_status : (file : List ℕ) (before other_before : Outside) (status other : Status)
    → HasFoundBoth file before status → HasFoundBoth file other_before other
    → before.shelf.holds file ≡ other_before.shelf.holds file
    → before.shelf.holds (log_file file) ≡ other_before.shelf.holds (log_file file)
    → status ≡ other
one_status file before other_before status other one another same log =
    let parts : one.parts ≡ another.parts =
    one_presentation_held same one.presents another.presents in
    let Holds : PresentationParts → Type 0 = λ p.
    HoldsDerivations before.shelf.holds (log_file file) p.names one.finding.log in
    let Says : PresentationParts → Type 0 = λ p.
    IsFound p one.finding.log one.finding.found in
    let holds : Holds another.parts = subst Holds parts one.finding.holds in
    let says : Says another.parts = subst Says parts one.finding.says in
    let logs =
    one_log_held (names_apart another.parts.names another.presents.says.holds.names) log
    holds.holds
    another.finding.holds.holds in
    let found : one.finding.found ≡ another.finding.found =
    one_finding another.parts one.finding.log another.finding.log logs
    one.finding.found another.finding.found says another.finding.says in
    one.finding.is ∙ (ap status_of found ∙ sym another.finding.is)

pub log_settled : (file : List ℕ) (before after other_before other_after : Outside)
    (status other : Status)
    → ByLogMeans file before after status → ByLogMeans file other_before other_after other
    → before.shelf.holds file ≡ other_before.shelf.holds file
    → before.shelf.holds (log_file file) ≡ other_before.shelf.holds (log_file file)
    → IsConclusive status → IsConclusive other → status ≡ other
log_settled file before after other_before other_after status other means others same log
    conclusive also =
    one_status file before other_before status other
    (found_of_both file before after status conclusive means)
    (found_of_both file other_before other_after other also others) same log

-- ---- what a yes says

objections_refute : (objection : Objection) → ¬ IsYes (objection_status objection)
objections_refute (objections.Unjustified number why) is_yes = is_yes
objections_refute (objections.RelationApart number u v) is_yes = is_yes
objections_refute (objections.NotConfluent u v) is_yes = is_yes

lines_answered : (file : List ℕ) (parts : PresentationParts) (log : Log) (before after : Outside)
    (status : Status)
    → IsYes status → HoldsPresentation before.shelf.holds file parts
    → LogMeans parts log before after status
    → HasAnswered file before after
lines_answered file parts log before after status is_yes holds (answered is decides all) =
    record { parts = parts; presents = holds; answered = all }
lines_answered file parts log before after status is_yes holds (stopped stop is decides how) =
    absurd (stops_inconclusive stop (subst IsConclusive is (yes-conclusive status is_yes)))
lines_answered file parts log before after status is_yes holds
    (objected objection is says writes) =
    absurd (objections_refute objection (subst IsYes is is_yes))
lines_answered file parts log before after status is_yes holds (cut_off objection is says front) =
    absurd (subst IsYes is is_yes)
lines_answered file parts log before after status is_yes holds (no_memory is unchanged) =
    absurd (subst IsYes is is_yes)

file_answered : (file : List ℕ) (parts : PresentationParts) (before after : Outside)
    (status : Status)
    → IsYes status → HoldsPresentation before.shelf.holds file parts
    → LogFileMeans file parts before after status
    → HasAnswered file before after
file_answered file parts before after status is_yes holds (inl ends) =
    absurd (load_inconclusive
    (IsDerivationsFault parts.names before.shelf.holds (log_file file))
    (log_file file) status ends.0 (yes-conclusive status is_yes))
file_answered file parts before after status is_yes holds (inr read) =
    lines_answered file parts read.0 before after status is_yes holds read.2

pub log_answered : (file : List ℕ) (before after : Outside) (status : Status)
    → IsYes status → ByLogMeans file before after status
    → HasAnswered file before after
log_answered file before after status is_yes (inl ends) =
    absurd (load_inconclusive (IsPresentationFault before.shelf.holds file) file status ends.0
    (yes-conclusive status is_yes))
log_answered file before after status is_yes (inr read) =
    file_answered file read.0 before after status is_yes read.1 read.2
