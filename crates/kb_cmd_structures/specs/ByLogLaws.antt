-- The laws of what the statuses of `gpaxioms` by the lines of a log mean.
use Rattle.std.proofs.Common.{◌≡◌, ◌∙◌, inl, inr, ℕ, suc, List, [], ◌++◌, length, codes, refl, sym, ap, subst}
use Rattle.std.specs.Prelude.{true}
use Rattle.kb_io.specs.Outside.{Outside}
use Rattle.kb_word.specs.Presentations.{PresentationParts, parts_of}
use Rattle.kb_word.specs.WordOrders.{Below}
use Rattle.kb_word.specs.declared.presentation.Presentation.{Presentation}
use Rattle.kb_fsa.specs.Language.{Automaton}
use Rattle.kb_proof.specs.Same.{AreSameLogs}
use Rattle.kb_proof.specs.Verifying.{VerifiedSays}
use Rattle.kb_proof.specs.declared.log.Log.{Log}
use Rattle.kb_proof.specs.declared.verified.Verified.{Verified}
use Rattle.kb_proof.specs.declared.verified.Verified.TheVariants as verdicts
use Rattle.kb_proof.proofs.SameAnswers.{same_answer}
use Rattle.kb_bylog.specs.LogLines.{IsJustifiedBy, relations}
use Rattle.kb_axioms.specs.Checked.{Checked}
use Rattle.kb_task.specs.Automata.{IsUnrefused}
use Rattle.kb_task.specs.Loads.{Files}
use Rattle.kb_task.specs.Logs.{HoldsLog}
use Rattle.kb_task.specs.Presentations.{IsGroupFault}
use Rattle.kb_task.specs.PromiseLaws.{yes-conclusive}
use Rattle.kb_task.specs.Runs.{ReadsSame}
use Rattle.kb_task.specs.Statuses.{IsAnswer, IsConclusive, IsFaultless, IsYes}
use Rattle.kb_task.specs.Stores.{Text, HoldsTexts}
use Rattle.kb_task.specs.declared.status.Cert.TheVariants.{NotJustified}
use Rattle.kb_task.specs.declared.status.Status.{Status}
use Rattle.kb_task.specs.declared.status.Status.TheVariants.{Yes, No, Memory}
use Rattle.kb_task.proofs.HeldLogs.{one_log_held}
use Rattle.kb_task.proofs.LoadEnds.{load_inconclusive, memory_at_load, one_presentation_held}
use Rattle.kb_task.proofs.StoredLogs.{names_apart}
use Rattle.kb_evidence.specs.Files.{acceptor_file, log_file, multiplier_file}
use Rattle.kb_cmd_structures.specs.ByLog.{ByLogMeans, at_logged, log_refuted, log_read, EndsAtLogged, at_logged_group, at_log, at_logged_automata, FindsByLog, own_by_log, refuted_by_log, too_many_by_log, unresolved_by_log, FindsUnjustified, unjustified, HoldLogged, IsLogFaultBeside, refused_log, refused_logged_automata, refused_logged_group, refused_unresolved, IsUnresolvedFault}
use Rattle.kb_cmd_structures.specs.Given.{CheckGiven}
use Rattle.kb_cmd_structures.specs.Gpaxioms.{checked_by, reads_acceptor, reads_group, reads_multiplier}
use Rattle.kb_cmd_structures.specs.GpaxiomsPromise.{IsByLogUnrefused, ReadsBy}
use Rattle.kb_cmd_structures.specs.Loaded.{EndsAtAutomata, IsAcceptorFault, IsMultiplierFault, at_acceptor, at_multiplier, refused_acceptor, refused_multiplier}
use Rattle.kb_cmd_structures.specs.LoadedLaws.{automata_inconclusive, held_over, one_checked}
use Rattle.kb_cmd_structures.specs.Shown.{Found, ShowMeans, shown, output_failed, store_failed, no_memory_stored, no_memory}
use Rattle.kb_cmd_structures.specs.ShownLaws.{Answered, answered_own, answered_no, answered_count, WroteYes, one_answer, wrote_yes}

-- ---- what is found

module _ {given : CheckGiven} {presentation : Presentation} {log : Log} {accepts : Automaton}
    {multipliers : List Automaton} where
  -- what is found is an answer, where the file of the log isn't refused for it
  found_answers : {status : Status} {texts : List Text} {line : List ℕ}
      → FindsByLog given presentation log accepts multipliers status texts line
      → IsUnrefused (IsUnresolvedFault given presentation log accepts multipliers)
      → IsAnswer status
  found_answers (own_by_log passes is_own agree) unrefused = tt
  found_answers (refuted_by_log first settled) unrefused = tt
  found_answers (too_many_by_log first) unrefused = tt
  found_answers (unresolved_by_log {fault = fault} is) unrefused = absurd (unrefused fault is)

  -- each answer says what it says of what is checked
  found_says : {status : Status} {texts : List Text} {line : List ℕ}
      → FindsByLog given presentation log accepts multipliers status texts line
      → IsConclusive status
      → Answered (checked_by given presentation accepts multipliers) status
  found_says (own_by_log passes is_own agree) answers = answered_own passes is_own
  found_says (refuted_by_log first settled) answers = answered_no first
  found_says (too_many_by_log first) answers = answered_count first
  found_says (unresolved_by_log is) answers = absurd answers

  -- a yes stores nothing, and writes that alone
  found_yes : {status : Status} {texts : List Text} {line : List ℕ}
      → FindsByLog given presentation log accepts multipliers status texts line → IsYes status
      → (texts ≡ []) × (line ≡ codes "yes\n")
  found_yes (own_by_log passes is_own agree) is_yes = (refl, refl)
  found_yes (refuted_by_log first settled) is_yes = absurd is_yes
  found_yes (too_many_by_log first) is_yes = absurd is_yes
  found_yes (unresolved_by_log is) is_yes = absurd is_yes

-- a log that isn't justified is no yes
pub refuted_answers : {presentation : Presentation} {log : Log} {status : Status} {texts : List Text}
    {line : List ℕ} → FindsUnjustified presentation log status texts line → IsAnswer status
refuted_answers (unjustified first) = tt

refuted_no : {presentation : Presentation} {log : Log} {status : Status} {texts : List Text}
    {line : List ℕ} → FindsUnjustified presentation log status texts line → ¬ IsYes status
refuted_no (unjustified first) is_yes = is_yes

-- ---- complete

-- what was shown is an answer, where all that may be found are
shown_answers : {found : Found} {before after : Outside} {status : Status}
    → ShowMeans found before after status → IsFaultless status
    → ((ends : Status) (texts : List Text) (line : List ℕ) → found ends texts line → IsAnswer ends)
    → IsAnswer status
shown_answers (shown {status = status} {texts = texts} {line = line} finds holds unread written)
    faultless answers = answers status texts line finds
shown_answers (output_failed finds holds unread front) faultless answers = cc
shown_answers (store_failed finds stops) faultless answers = cc
shown_answers (no_memory_stored finds first) faultless answers = tt
shown_answers (no_memory unchanged) faultless answers = tt

-- where nothing is refused, a run ends at a load for want of memory only
module _ (given : CheckGiven) (before : Outside) (unrefused : IsByLogUnrefused given before) where
  abbrev files : Files
  files = before.shelf.holds

  automata_answer : {presentation : Presentation} {log : Log} (status : Status)
      → HoldLogged files given.file presentation log → IsJustifiedBy (parts_of presentation) log
      → EndsAtAutomata files given.file presentation status → IsFaultless status
      → status ≡ Memory
  automata_answer {presentation = presentation} status held justified (at_acceptor ends) faultless =
      let name = acceptor_file given.file in
      memory_at_load (IsAcceptorFault files given.file presentation) name status
      (λ fault is. unrefused name fault (refused_logged_automata held justified
      (refused_acceptor (record { is = refl; has = is })))) faultless ends
  automata_answer {presentation = presentation} status held justified (at_multiplier accepts ends)
      faultless =
      let x = suc (length ends.earlier) in
      let name = multiplier_file given.file x in
      memory_at_load (IsMultiplierFault files given.file presentation x) name status
      (λ fault is. unrefused name fault (refused_logged_automata held justified
      (refused_multiplier accepts (record {
        earlier = ends.earlier;
        held = ends.held;
        within = ends.within;
        refused = record { is = refl; has = is };
      })))) faultless ends.ends

  ends_answer : (status : Status) → EndsAtLogged files given.file status → IsFaultless status
      → status ≡ Memory
  ends_answer status (at_logged_group ends) faultless =
      memory_at_load (IsGroupFault files given.file) given.file status
      (λ fault is. unrefused given.file fault
      (refused_logged_group (record { is = refl; has = is }))) faultless ends
  ends_answer status (at_log {presentation = presentation} group ends) faultless =
      let name = log_file given.file in
      memory_at_load (IsLogFaultBeside files given.file presentation) name status
      (λ fault is. unrefused name fault
      (refused_log group (record { is = refl; has = is }))) faultless ends
  ends_answer status (at_logged_automata held justified ends) faultless =
      automata_answer status held justified ends faultless

pub by_log_complete : (given : CheckGiven) (before after : Outside) (status : Status)
    → ByLogMeans given before after status → IsByLogUnrefused given before
    → IsFaultless status → IsAnswer status
by_log_complete given before after status (at_logged ends unchanged) unrefused faultless =
    subst IsAnswer (sym (ends_answer given before unrefused status ends faultless)) tt
by_log_complete given before after status (log_refuted held means) unrefused faultless =
    shown_answers means faultless (λ ends texts line finds. refuted_answers finds)
by_log_complete given before after status
    (log_read {presentation = presentation} {acceptor = accepts} {multipliers = multipliers}
    {log = log} held log_is justified means) unrefused faultless =
    shown_answers means faultless
    (λ ends texts line finds. found_answers finds
    (λ fault is. unrefused (log_file given.file) fault (refused_unresolved (record {
      is = refl;
      has = record {
        presentation = presentation;
        log = log;
        acceptor = accepts;
        multipliers = multipliers;
        held = held;
        log_is = log_is;
        justified = justified;
        unresolved = is;
      };
    }))))

-- ---- settled

ends_inconclusive : (files : Files) (file : List ℕ) (status : Status)
    → EndsAtLogged files file status → ¬ IsConclusive status
ends_inconclusive files file status (at_logged_group ends) =
    load_inconclusive (IsGroupFault files file) file status ends
ends_inconclusive files file status (at_log {presentation = presentation} group ends) =
    load_inconclusive (IsLogFaultBeside files file presentation) (log_file file) status ends
ends_inconclusive files file status
    (at_logged_automata {presentation = presentation} held justified ends) =
    automata_inconclusive files file presentation status ends

-- what an answer was found as
record Shows (found : Found) (status : Status) : Type 0 where
  texts : List Text
  line : List ℕ
  finds : found status texts line

shows : {found : Found} {before after : Outside} {status : Status}
    → ShowMeans found before after status → IsConclusive status → Shows found status
shows (shown {status = status} {texts = texts} {line = line} finds holds unread written) settles =
    record { texts = texts; line = line; finds = finds }
shows (output_failed finds holds unread front) settles = absurd settles
shows (store_failed finds stops) settles = absurd settles
shows (no_memory_stored finds first) settles = absurd settles
shows (no_memory unchanged) settles = absurd settles

-- the status that an answer of the check of a log has by itself
abbrev verified_status : Verified → Status
verified_status verdicts.Yes = Yes
verified_status (verdicts.No number why) = No (NotJustified number why)

-- the check of the log answered no, which is the status
pub record IsRefuted (presentation : Presentation) (log : Log) (status : Status) : Type 0 where
  answer : Verified
  says : VerifiedSays (Below presentation.order) (relations (parts_of presentation)) log answer
  is : status ≡ verified_status answer
  refutes : ¬ IsYes status

pub is_refuted : {presentation : Presentation} {log : Log} {status : Status} {texts : List Text}
    {line : List ℕ}
    → FindsUnjustified presentation log status texts line → IsRefuted presentation log status
is_refuted (unjustified {number = number} {why = why} first) =
    record { answer = verdicts.No number why; says = first; is = refl; refutes = λ is_yes. is_yes }

module _ {files others : Files} {file : List ℕ} {one other : Presentation} {log again : Log}
    (held : HoldLogged files file one log) (also : HoldLogged others file other again)
    (same_group : files file ≡ others file)
    (same_log : files (log_file file) ≡ others (log_file file)) where
  pub one_parts : parts_of one ≡ parts_of other
  one_parts = one_presentation_held same_group held.group.presents also.group.presents

  pub same_logs : AreSameLogs log again
  same_logs =
      let Holds : PresentationParts → Type 0 = λ p. HoldsLog files (log_file file) p.names log in
      one_log_held (names_apart other.names also.group.presents.says.holds.names) same_log
      (subst Holds one_parts held.log_is.holds) also.log_is.holds

  -- the check of the log has one answer
  one_check : (first second : Verified)
      → VerifiedSays (Below one.order) (relations (parts_of one)) log first
      → VerifiedSays (Below other.order) (relations (parts_of other)) again second
      → first ≡ second
  one_check first second says more =
      let Says : PresentationParts → Type 0 =
      λ p. VerifiedSays (Below p.order) (relations p) log first in
      same_answer (Below other.order) (relations (parts_of other)) log again first second same_logs
      (subst Says one_parts says) more

  both_refuted : {status more : Status} → IsRefuted one log status → IsRefuted other again more
      → status ≡ more
  both_refuted first second =
      first.is ∙ (ap verified_status
      (one_check first.answer second.answer first.says second.says) ∙ sym second.is)

  pub not_justified : {status : Status} → IsRefuted one log status
      → ¬ IsJustifiedBy (parts_of other) again
  not_justified {status = status} first justified =
      let same = one_check first.answer verdicts.Yes first.says justified in
      first.refutes (subst IsYes (sym (first.is ∙ ap verified_status same)) tt)

  not_refuted : {status : Status} → IsJustifiedBy (parts_of one) log
      → ¬ IsRefuted other again status
  not_refuted {status = status} justified second =
      let same = one_check verdicts.Yes second.answer justified second.says in
      second.refutes (subst IsYes (sym (second.is ∙ sym (ap verified_status same))) tt)

pub by_log_settled : (given : CheckGiven)
    (before after other_before other_after : Outside) (status other : Status)
    → ByLogMeans given before after status
    → ByLogMeans given other_before other_after other
    → ReadsSame (ReadsBy true given) before other_before
    → IsConclusive status → IsConclusive other → status ≡ other
by_log_settled given before after other_before other_after status other (at_logged ends unchanged)
    others same settles also =
    absurd (ends_inconclusive before.shelf.holds given.file status ends
    settles)
by_log_settled given before after other_before other_after status other (log_refuted held means)
    (at_logged ends unchanged) same settles also =
    absurd (ends_inconclusive other_before.shelf.holds given.file other ends also)
by_log_settled given before after other_before other_after status other
    (log_read held log_is justified means) (at_logged ends unchanged) same settles also =
    absurd (ends_inconclusive other_before.shelf.holds given.file other ends also)
by_log_settled given before after other_before other_after status other (log_refuted held means)
    (log_refuted again others) same settles also =
    both_refuted held again (same given.file (inr (reads_group refl)))
    (same (log_file given.file) (inl refl)) (is_refuted (shows means settles).finds)
    (is_refuted (shows others also).finds)
by_log_settled given before after other_before other_after status other (log_refuted held means)
    (log_read again log_is justified others) same settles also =
    absurd (not_justified held (record { group = again.group; log_is = log_is })
    (same given.file (inr (reads_group refl))) (same (log_file given.file) (inl refl))
    (is_refuted (shows means settles).finds) justified)
by_log_settled given before after other_before other_after status other
    (log_read held log_is justified means) (log_refuted again others) same settles also =
    absurd (not_refuted (record { group = held.group; log_is = log_is }) again
    (same given.file (inr (reads_group refl))) (same (log_file given.file) (inl refl)) justified
    (is_refuted (shows others also).finds))
by_log_settled given before after other_before other_after status other
    (log_read held log_is justified means)
    (log_read {presentation = presentation} {acceptor = accepts} {multipliers = multipliers} again
    second_log second others) same settles also =
    let most = given.limits.states in
    let checked = one_checked held again (same given.file (inr (reads_group refl)))
    (same (acceptor_file given.file) (inr (reads_acceptor refl)))
    (λ x. same (multiplier_file given.file x) (inr (reads_multiplier x refl))) most in
    let Says : Checked → Type 0 = λ c. Answered c status in
    one_answer (checked_by given presentation accepts multipliers) (held_over most again) status
    other (subst Says checked (found_says (shows means settles).finds settles))
    (found_says (shows others also).finds also)

-- ---- what a yes wrote

-- something of which a yes stores nothing and writes `yes` alone was shown
pub record SaidYes (before after : Outside) : Type 0 where
  pub holds : HoldsTexts [] before.shelf after.shelf
  pub written : after.output.written ≡ before.output.written ++ codes "yes\n"

pub said_yes : {found : Found} {before after : Outside} → WroteYes found before after
    → ((status : Status) (texts : List Text) (line : List ℕ) → found status texts line
    → IsYes status → (texts ≡ []) × (line ≡ codes "yes\n"))
    → SaidYes before after
said_yes {before = before} {after = after} wrote says =
    let both = says wrote.status wrote.texts wrote.line wrote.finds wrote.is_yes in
    let Holds : List Text → Type 0 = λ texts. HoldsTexts texts before.shelf after.shelf in
    record {
      holds = subst Holds both.0 wrote.holds;
      written = wrote.written ∙ ap (λ (l : List ℕ). before.output.written ++ l) both.1;
    }

pub by_log_said : (given : CheckGiven) (before after : Outside) (status : Status)
    → ByLogMeans given before after status → IsYes status → SaidYes before after
by_log_said given before after status (at_logged ends unchanged) is_yes =
    absurd (ends_inconclusive before.shelf.holds given.file status ends
    (yes-conclusive status is_yes))
by_log_said given before after status (log_refuted held means) is_yes =
    said_yes (wrote_yes means is_yes)
    (λ ends texts line finds said. absurd (refuted_no finds said))
by_log_said given before after status (log_read held log_is justified means) is_yes =
    said_yes (wrote_yes means is_yes) (λ ends texts line finds said. found_yes finds said)
