-- The laws of `logread`.
use Rattle.std.proofs.Common.{◌≡◌, ◌∙◌, inl, inr, ◌++◌, refl, sym, ap, subst}
use Rattle.kb_io.specs.Outside.{Outside}
use Rattle.kb_word.specs.Presentations.{PresentationParts}
use Rattle.kb_proof.specs.declared.log.Log.{Log}
use Rattle.kb_task.specs.Logs.{HoldsLog, IsLogFault}
use Rattle.kb_task.specs.Presentations.{HoldsPresentation, IsPresentationFault}
use Rattle.kb_task.specs.PromiseLaws.{one_yes, yes-conclusive}
use Rattle.kb_task.specs.Promises.{IsLawful}
use Rattle.kb_task.specs.Refusals.{RefusesNone}
use Rattle.kb_task.specs.Runs.{HasSameEffect}
use Rattle.kb_task.specs.Statuses.{AnswersYes, IsFaultless, IsYes}
use Rattle.kb_task.specs.declared.status.Refusal.TheVariants.{File}
use Rattle.kb_task.specs.declared.status.Status.{Status}
use Rattle.kb_task.specs.declared.status.Status.TheVariants.{Yes, Refused, Undecided, No, Memory, Fault, Usage}
use Rattle.kb_task.proofs.LoadEnds.{memory_at_load, load_inconclusive, one_presentation_held}
use Rattle.kb_task.proofs.RefusalLemmas.{ReadsTwo, ends_first, ends_next, reads_both, exact_of_two, refused_of_two}
use Rattle.kb_evidence.specs.Files.{log_file}
use Rattle.kb_cmd_completion.specs.Given.{LogreadGiven}
use Rattle.kb_cmd_completion.specs.Logread.{LogMeans, LogFileMeans, LogreadMeans, IsLogreadUnrefused, StoresNothing, logread_line, logread_promise}
use Rattle.kb_cmd_completion.specs.LogLaws.{names_apart, one_logread}

-- ---- an answer

log_answers : (log : Log) (before after : Outside) (status : Status) → IsFaultless status
    → LogMeans log before after status → AnswersYes status
log_answers log before after Yes faultless means = tt
log_answers log before after Memory faultless means = tt
log_answers log before after (Refused refusal) faultless means = means
log_answers log before after (Undecided limit) faultless means = means
log_answers log before after (No cert) faultless means = means
log_answers log before after (Fault which) faultless means = cc
log_answers log before after (Usage kind) faultless means = means

file_answers : (given : LogreadGiven) (parts : PresentationParts) (before after : Outside)
    (status : Status)
    → HoldsPresentation before.shelf.holds given.file parts → IsLogreadUnrefused given before
    → IsFaultless status
    → LogFileMeans given parts before after status → AnswersYes status
file_answers given parts before after status holds unrefused faultless (inl ends) =
    let is_memory =
    memory_at_load (IsLogFault parts.names before.shelf.holds (log_file given.file))
    (log_file given.file) status
    (unrefused.log parts holds) faultless ends.0 in
    subst AnswersYes (sym is_memory) tt
file_answers given parts before after status holds unrefused faultless (inr read) =
    log_answers read.0 before after status faultless read.2

answers : (given : LogreadGiven) (before after : Outside) (status : Status)
    → LogreadMeans given before after status
    → IsLogreadUnrefused given before → IsFaultless status → AnswersYes status
answers given before after status (inl ends) unrefused faultless =
    let is_memory =
    memory_at_load (IsPresentationFault before.shelf.holds given.file) given.file
    status unrefused.file
    faultless ends.0 in
    subst AnswersYes (sym is_memory) tt
answers given before after status (inr read) unrefused faultless =
    file_answers given read.0 before after status read.1 unrefused faultless read.2

-- ---- refused files

log_refuses_none : (log : Log) (before after : Outside) (status : Status)
    → LogMeans log before after status → RefusesNone status
log_refuses_none log before after (Refused refusal) means = absurd means
log_refuses_none log before after _ means = tt

-- how far a run came with its files
reads : (given : LogreadGiven) (before after : Outside) (status : Status)
    → LogreadMeans given before after status
    → ReadsTwo (IsPresentationFault before.shelf.holds given.file) given.file
    (HoldsPresentation before.shelf.holds given.file)
    (λ parts. IsLogFault parts.names before.shelf.holds (log_file given.file))
    (log_file given.file)
    (λ parts. (log : Log) × HoldsLog before.shelf.holds (log_file given.file) parts.names log) status
reads given before after status (inl means) = ends_first means.0
reads given before after status (inr (parts, holds, inl means)) = ends_next parts holds means.0
reads given before after status (inr (parts, holds, inr (log, held, means))) =
    reads_both parts holds (log, held) (log_refuses_none log before after status means)

-- ---- one line

-- the line that a yes wrote
written : (log : Log) (before after : Outside) (status : Status) → IsYes status
    → LogMeans log before after status
    → after.output.written ≡ before.output.written ++ logread_line log
written log before after Yes is_yes means = means.written
written log before after _ is_yes means = absurd is_yes

-- the log that a yes read
record HasRead (given : LogreadGiven) (parts : PresentationParts)
    (before after : Outside) : Type 0 where
  log : Log
  holds : HoldsLog before.shelf.holds (log_file given.file) parts.names log
  wrote : after.output.written ≡ before.output.written ++ logread_line log

read_log : (given : LogreadGiven) (parts : PresentationParts) (before after : Outside)
    (status : Status) → IsYes status
    → LogFileMeans given parts before after status → HasRead given parts before after
read_log given parts before after status is_yes (inl ends) =
    absurd (load_inconclusive (IsLogFault parts.names before.shelf.holds (log_file given.file))
    (log_file given.file) status ends.0
    (yes-conclusive status is_yes))
read_log given parts before after status is_yes (inr read) =
    record {
      log = read.0;
      holds = read.1;
      wrote =
          written read.0 before after status is_yes read.2;
    }

-- the presentation and the log that a yes read
record HasReadBoth (given : LogreadGiven) (before after : Outside) : Type 0 where
  parts : PresentationParts
  presents : HoldsPresentation before.shelf.holds given.file parts
  reads : HasRead given parts before after

read_both : (given : LogreadGiven) (before after : Outside) (status : Status) → IsYes status
    → LogreadMeans given before after status
    → HasReadBoth given before after
read_both given before after status is_yes (inl ends) =
    absurd (load_inconclusive (IsPresentationFault before.shelf.holds given.file)
    given.file status ends.0
    (yes-conclusive status is_yes))
read_both given before after status is_yes (inr read) =
    record {
      parts = read.0;
      presents = read.1;
      reads =
          read_log given read.0 before after status is_yes read.2;
    }

same_effect : (given : LogreadGiven) (before after other_before other_after : Outside)
    → HasReadBoth given before after → HasReadBoth given other_before other_after
    → before.shelf.holds given.file ≡ other_before.shelf.holds given.file
    → before.shelf.holds (log_file given.file) ≡ other_before.shelf.holds (log_file given.file)
    → HasSameEffect StoresNothing before after other_before other_after
same_effect given before after other_before other_after one other file log =
    let parts = one_presentation_held file one.presents other.presents in
    let held = subst
    (λ p. HoldsLog before.shelf.holds (log_file given.file) p.names one.reads.log) parts
    one.reads.holds in
    let line = one_logread (names_apart other.parts.names other.presents.says.holds.names) log held
    other.reads.holds in
    record {
      bytes = logread_line one.reads.log;
      written = one.reads.wrote;
      other_written =
          other.reads.wrote ∙ ap (λ bytes. other_before.output.written ++ bytes) (sym line);
      stored = λ name none. absurd none;
    }

pub logread_lawful : (given : LogreadGiven) → IsLawful logread_promise (logread_promise given)
logread_lawful given = record {
  complete = answers given;
  memory = tt;
  refused = λ before after name fault means at_load.
      refused_of_two name fault (reads given before after (Refused (File name fault)) means) at_load;
  exact = λ have before after status name fault means refuses faultless.
      exact_of_two name fault status (reads given before after status means)
      (have.presentation before.shelf.holds given.file)
      (λ one other held again. one_presentation_held refl held again)
      (λ parts held. have.log before.shelf.holds given.file (log_file given.file) parts held) refuses faultless;
  settled = λ before after other_before other_after status other means others same is_yes also.
      one_yes status other is_yes also;
  conclusive = yes-conclusive;
  one_function = λ other_given before after other_before other_after status other means others
      is_yes also file same input.
      let means_given =
      subst (λ name. LogreadMeans (record { file = name }) other_before other_after other)
      (sym file) others in
      same_effect given before after other_before other_after
      (read_both given before after status is_yes means)
      (read_both given other_before other_after other also means_given)
      (same given.file (inl refl)) (same (log_file given.file) (inr refl));
}
