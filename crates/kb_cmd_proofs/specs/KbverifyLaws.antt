-- The laws of `kbverify`.
use Rattle.std.proofs.Common.{◌≡◌, ◌∙◌, inl, inr, ◌++◌, refl, sym, ap, subst}
use Rattle.kb_io.specs.Outside.{Outside}
use Rattle.kb_word.specs.Presentations.{PresentationParts}
use Rattle.kb_word.specs.Relations.{relations_of}
use Rattle.kb_word.specs.WordOrders.{Below}
use Rattle.kb_proof.specs.declared.log.Log.{Log}
use Rattle.kb_proof.specs.declared.verified.Verified.{Verified}
use Rattle.kb_proof.specs.declared.verified.Verified.TheVariants as verdicts
use Rattle.kb_proof.proofs.SameAnswers.{same_answer}
use Rattle.kb_task.specs.Effects.{Writes}
use Rattle.kb_task.specs.Logs.{HoldsDerivations, IsDerivationsFault}
use Rattle.kb_task.specs.Presentations.{HoldsPresentation, IsPresentationFault}
use Rattle.kb_task.specs.PromiseLaws.{yes-conclusive}
use Rattle.kb_task.specs.Promises.{IsLawful}
use Rattle.kb_task.specs.Refusals.{RefusesNone}
use Rattle.kb_task.specs.Runs.{HasSameEffect}
use Rattle.kb_task.specs.Statuses.{AnswersYesOrNo, IsConclusive, IsFaultless}
use Rattle.kb_task.specs.declared.status.Refusal.TheVariants.{File}
use Rattle.kb_task.specs.declared.status.Status.{Status}
use Rattle.kb_task.specs.declared.status.Status.TheVariants.{Refused, Fault}
use Rattle.kb_task.specs.declared.status.Which.TheVariants.{Output}
use Rattle.kb_task.proofs.HeldLogs.{one_log_held}
use Rattle.kb_task.proofs.LoadEnds.{memory_at_load, load_inconclusive, one_presentation_held}
use Rattle.kb_task.proofs.RefusalLemmas.{ReadsTwo, ends_first, ends_next, reads_both, exact_of_two, refused_of_two}
use Rattle.kb_task.proofs.StoredLogs.{names_apart}
use Rattle.kb_evidence.specs.Files.{log_file}
use Rattle.kb_cmd_proofs.specs.Given.{KbverifyGiven}
use Rattle.kb_cmd_proofs.specs.Kbverify.{CheckMeans, answered, cut_off, no_memory, IsKbverifyUnrefused, KbverifyMeans, LogFileMeans, LogSays, StoresNothing, answer_line, answer_status, kbverify_promise}

-- ---- an answer

answers_one : (answer : Verified) → AnswersYesOrNo (answer_status answer)
answers_one verdicts.Yes = tt
answers_one (verdicts.No number why) = tt

output_failed : ¬ IsFaultless (Fault Output)
output_failed faultless = cc

check_answers : (parts : PresentationParts) (log : Log) (before after : Outside) (status : Status)
    → IsFaultless status
    → CheckMeans parts log before after status → AnswersYesOrNo status
check_answers parts log before after status faultless (answered answer says is writes) =
    subst AnswersYesOrNo (sym is) (answers_one answer)
check_answers parts log before after status faultless (cut_off answer says is front) =
    absurd (output_failed (subst IsFaultless is faultless))
check_answers parts log before after status faultless (no_memory is unchanged) =
    subst AnswersYesOrNo (sym is) tt

file_answers : (given : KbverifyGiven) (parts : PresentationParts) (before after : Outside)
    (status : Status)
    → HoldsPresentation before.shelf.holds given.file parts → IsKbverifyUnrefused given before
    → IsFaultless status
    → LogFileMeans given parts before after status → AnswersYesOrNo status
file_answers given parts before after status holds unrefused faultless (inl ends) =
    let is_memory =
    memory_at_load
    (IsDerivationsFault parts.names before.shelf.holds (log_file given.file))
    (log_file given.file) status
    (unrefused.log parts holds) faultless ends.0 in
    subst AnswersYesOrNo (sym is_memory) tt
file_answers given parts before after status holds unrefused faultless (inr read) =
    check_answers parts read.0 before after status faultless read.2

answers_all : (given : KbverifyGiven) (before after : Outside) (status : Status)
    → KbverifyMeans given before after status
    → IsKbverifyUnrefused given before → IsFaultless status → AnswersYesOrNo status
answers_all given before after status (inl ends) unrefused faultless =
    let is_memory =
    memory_at_load (IsPresentationFault before.shelf.holds given.file) given.file
    status unrefused.file
    faultless ends.0 in
    subst AnswersYesOrNo (sym is_memory) tt
answers_all given before after status (inr read) unrefused faultless =
    file_answers given read.0 before after status read.1 unrefused faultless read.2

-- ---- refused files

answer_refuses_none : (answer : Verified) → RefusesNone (answer_status answer)
answer_refuses_none verdicts.Yes = tt
answer_refuses_none (verdicts.No number why) = tt

check_refuses_none : (parts : PresentationParts) (log : Log) (before after : Outside)
    (status : Status) → CheckMeans parts log before after status → RefusesNone status
check_refuses_none parts log before after status (answered answer says is writes) =
    subst RefusesNone (sym is) (answer_refuses_none answer)
check_refuses_none parts log before after status (cut_off answer says is front) =
    subst RefusesNone (sym is) tt
check_refuses_none parts log before after status (no_memory is unchanged) =
    subst RefusesNone (sym is) tt

-- how far a run came with its files
reads : (given : KbverifyGiven) (before after : Outside) (status : Status)
    → KbverifyMeans given before after status
    → ReadsTwo (IsPresentationFault before.shelf.holds given.file) given.file
    (HoldsPresentation before.shelf.holds given.file)
    (λ parts. IsDerivationsFault parts.names before.shelf.holds (log_file given.file))
    (log_file given.file)
    (λ parts. (log : Log)
    × HoldsDerivations before.shelf.holds (log_file given.file) parts.names log) status
reads given before after status (inl ends) = ends_first ends.0
reads given before after status (inr (parts, holds, inl ends)) = ends_next parts holds ends.0
reads given before after status (inr (parts, holds, inr (log, held, means))) =
    reads_both parts holds (log, held) (check_refuses_none parts log before after status means)

-- ---- one answer

-- the log over this presentation that a yes or no is about, and the answer
record HasChecked (given : KbverifyGiven) (parts : PresentationParts) (before after : Outside)
    (status : Status) : Type 0 where
  log : Log
  holds : HoldsDerivations before.shelf.holds (log_file given.file) parts.names log
  answer : Verified
  says : LogSays parts log answer
  is : status ≡ answer_status answer
  writes : Writes (answer_line answer) before after

checked_log : (given : KbverifyGiven) (parts : PresentationParts) (before after : Outside)
    (status : Status) (log : Log) → IsConclusive status
    → HoldsDerivations before.shelf.holds (log_file given.file) parts.names log
    → CheckMeans parts log before after status → HasChecked given parts before after status
checked_log given parts before after status log conclusive holds
    (answered answer says is writes) =
    record {
      log = log;
      holds = holds;
      answer = answer;
      says = says;
      is = is;
      writes = writes;
    }
checked_log given parts before after status log conclusive holds (cut_off answer says is front) =
    absurd (subst IsConclusive is conclusive)
checked_log given parts before after status log conclusive holds (no_memory is unchanged) =
    absurd (subst IsConclusive is conclusive)

checked_file : (given : KbverifyGiven) (parts : PresentationParts) (before after : Outside)
    (status : Status) → IsConclusive status
    → LogFileMeans given parts before after status → HasChecked given parts before after status
checked_file given parts before after status conclusive (inl ends) =
    absurd (load_inconclusive
    (IsDerivationsFault parts.names before.shelf.holds (log_file given.file))
    (log_file given.file) status ends.0 conclusive)
checked_file given parts before after status conclusive (inr read) =
    checked_log given parts before after status read.0 conclusive read.1 read.2

-- the presentation and the log that a yes or no is about
record HasCheckedBoth (given : KbverifyGiven) (before after : Outside) (status : Status) : Type 0 where
  parts : PresentationParts
  presents : HoldsPresentation before.shelf.holds given.file parts
  checked : HasChecked given parts before after status

checked_both : (given : KbverifyGiven) (before after : Outside) (status : Status)
    → IsConclusive status → KbverifyMeans given before after status
    → HasCheckedBoth given before after status
checked_both given before after status conclusive (inl ends) =
    absurd (load_inconclusive (IsPresentationFault before.shelf.holds given.file)
    given.file status ends.0 conclusive)
checked_both given before after status conclusive (inr read) =
    record {
      parts = read.0;
      presents = read.1;
      checked = checked_file given read.0 before after status conclusive read.2;
    }

-- files of the same bytes have one answer
one_answer : (given : KbverifyGiven) (before after other_before other_after : Outside)
    (status other : Status) (one : HasCheckedBoth given before after status)
    (another : HasCheckedBoth given other_before other_after other)
    → before.shelf.holds given.file ≡ other_before.shelf.holds given.file
    → before.shelf.holds (log_file given.file) ≡ other_before.shelf.holds (log_file given.file)
    → one.checked.answer ≡ another.checked.answer
one_answer given before after other_before other_after status other one another file log =
    let parts : one.parts ≡ another.parts =
    one_presentation_held file one.presents another.presents in
    let Holds : PresentationParts → Type 0 = λ p.
    HoldsDerivations before.shelf.holds (log_file given.file) p.names one.checked.log in
    let Says : PresentationParts → Type 0 = λ p.
    LogSays p one.checked.log one.checked.answer in
    let holds : Holds another.parts = subst Holds parts one.checked.holds in
    let says : Says another.parts = subst Says parts one.checked.says in
    let logs =
    one_log_held (names_apart another.parts.names another.presents.says.holds.names) log
    holds.holds
    another.checked.holds.holds in
    same_answer (Below another.parts.order)
    (relations_of another.parts.inverses another.parts.equations) one.checked.log
    another.checked.log
    one.checked.answer another.checked.answer logs says another.checked.says

one_status : (given : KbverifyGiven) (before after other_before other_after : Outside)
    (status other : Status)
    → HasCheckedBoth given before after status
    → HasCheckedBoth given other_before other_after other
    → before.shelf.holds given.file ≡ other_before.shelf.holds given.file
    → before.shelf.holds (log_file given.file) ≡ other_before.shelf.holds (log_file given.file)
    → status ≡ other
one_status given before after other_before other_after status other one another file log =
    let same =
    one_answer given before after other_before other_after status other one another file log in
    one.checked.is ∙ (ap answer_status same ∙ sym another.checked.is)

same_effect : (given : KbverifyGiven) (before after other_before other_after : Outside)
    (status other : Status)
    → HasCheckedBoth given before after status
    → HasCheckedBoth given other_before other_after other
    → before.shelf.holds given.file ≡ other_before.shelf.holds given.file
    → before.shelf.holds (log_file given.file) ≡ other_before.shelf.holds (log_file given.file)
    → HasSameEffect StoresNothing before after other_before other_after
same_effect given before after other_before other_after status other one another file log =
    let same =
    one_answer given before after other_before other_after status other one another file log in
    record {
      bytes = answer_line one.checked.answer;
      written = one.checked.writes.written;
      other_written =
          another.checked.writes.written
          ∙ ap (λ answer. other_before.output.written ++ answer_line answer) (sym same);
      stored = λ name none. absurd none;
    }

pub kbverify_lawful : (given : KbverifyGiven) → IsLawful kbverify_promise (kbverify_promise given)
kbverify_lawful given = record {
  complete = answers_all given;
  memory = tt;
  refused = λ before after name fault means at_load.
      refused_of_two name fault (reads given before after (Refused (File name fault)) means) at_load;
  exact = λ have before after status name fault means refuses faultless.
      exact_of_two name fault status (reads given before after status means)
      (have.presentation before.shelf.holds given.file)
      (λ one other held again. one_presentation_held refl held again)
      (λ parts held. have.derivations before.shelf.holds given.file (log_file given.file) parts held) refuses faultless;
  settled = λ before after other_before other_after status other means others same settles also.
      one_status given before after other_before other_after status other
      (checked_both given before after status settles means)
      (checked_both given other_before other_after other also others)
      (same given.file (inl refl)) (same (log_file given.file) (inr refl));
  conclusive = λ status settles. settles;
  one_function = λ other_given before after other_before other_after status other means others
      is_yes also file same input.
      let means_given =
      subst (λ name. KbverifyMeans (record { file = name }) other_before other_after other)
      (sym file) others in
      same_effect given before after other_before other_after status other
      (checked_both given before after status (yes-conclusive status is_yes) means)
      (checked_both given other_before other_after other (yes-conclusive other also) means_given)
      (same given.file (inl refl)) (same (log_file given.file) (inr refl));
}
