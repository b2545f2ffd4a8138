-- What the lines of a justified log leave open is one thing, and where they leave it open nothing else is found.
use Rattle.std.proofs.Common.{◌≡◌, ◌∙◌, inl, inr, ℕ, List, refl, sym, ap, subst}
use Rattle.kb_io.specs.Outside.{Outside}
use Rattle.kb_word.specs.Presentations.{PresentationParts, parts_of}
use Rattle.kb_word.specs.Printed.{letter_name, text_of_word}
use Rattle.kb_word.specs.Words.{Pair}
use Rattle.kb_word.specs.declared.presentation.Presentation.{Presentation}
use Rattle.kb_fsa.specs.Language.{Automaton}
use Rattle.kb_structure.specs.declared.cert.Cert.{Cert as StructureCert}
use Rattle.kb_proof.specs.declared.log.Log.{Log}
use Rattle.kb_proof.proofs.SameAnswers.{rules_same}
use Rattle.kb_bylog.specs.LogLines.{Settles, lines_of, relations}
use Rattle.kb_axioms.specs.Answered.{IsFirstOfAll, of_automata, of_elements}
use Rattle.kb_axioms.specs.Checked.{Checked, PassesRelations}
use Rattle.kb_axioms.specs.Truth.{IsFirstUnresolved}
use Rattle.kb_task.specs.Loads.{Files}
use Rattle.kb_task.specs.Refusals.{IsRefusalOrMemory, IsRefusedFor}
use Rattle.kb_task.specs.Statuses.{IsFaultless}
use Rattle.kb_task.specs.Stores.{Text}
use Rattle.kb_task.specs.declared.status.FileFault.{FileFault}
use Rattle.kb_task.specs.declared.status.FileFault.TheVariants.{LogUnresolved}
use Rattle.kb_task.specs.declared.status.Refusal.TheVariants.{File}
use Rattle.kb_task.specs.declared.status.Status.{Status}
use Rattle.kb_task.specs.declared.status.Status.TheVariants.{Refused}
use Rattle.kb_evidence.specs.Files.{log_file}
use Rattle.kb_cmd_structures.specs.ByLog.{FindsByLog, own_by_log, refuted_by_log, too_many_by_log, unresolved_by_log, HoldLogged, HoldsLogBeside, IsSettledFor, IsUnresolvedBy, IsUnresolvedFault}
use Rattle.kb_cmd_structures.specs.ByLogLaws.{one_parts, same_logs}
use Rattle.kb_cmd_structures.specs.FirstCertificates.{none_by_themselves}
use Rattle.kb_cmd_structures.specs.FirstCounts.{passed_not_counted}
use Rattle.kb_cmd_structures.specs.FirstUnresolved.{first_moved, none_unresolved, one_generator, one_unresolved_label, one_unresolved_other}
use Rattle.kb_cmd_structures.specs.Given.{CheckGiven}
use Rattle.kb_cmd_structures.specs.Gpaxioms.{checked_by}
use Rattle.kb_cmd_structures.specs.Loaded.{HoldStructure}
use Rattle.kb_cmd_structures.specs.LoadedLaws.{one_checked}
use Rattle.kb_cmd_structures.specs.Shown.{ShowMeans, shown, output_failed, store_failed, no_memory_stored, no_memory}

module _ (given : CheckGiven) (presentation : Presentation) (log : Log) (accepts : Automaton)
    (multipliers : List Automaton) where
  abbrev checked : Checked
  checked = checked_by given presentation accepts multipliers

  -- against automata that pass a certificate is found only where the lines settle the relations
  settles_passed : (cert : StructureCert) → IsFirstOfAll checked cert → IsSettledFor presentation log cert
      → PassesRelations checked → Settles (lines_of log) (relations (parts_of presentation))
  settles_passed cert (of_automata first) settled passes =
      absurd (none_by_themselves checked passes cert first)
  settles_passed cert (of_elements also first) settled passes = settled

  -- the lines leave one thing open
  one_fault : {fault other : FileFault}
      → IsUnresolvedFault given presentation log accepts multipliers fault
      → IsUnresolvedFault given presentation log accepts multipliers other → fault ≡ other
  one_fault one two =
      let names = presentation.names in
      let first = one.unresolved.first in
      let second = two.unresolved.first in
      one.is
      ∙ (ap (λ (x : ℕ). LogUnresolved (letter_name names x) (text_of_word names one.label)
      (text_of_word names one.other)) (one_generator presentation (lines_of log) multipliers first second)
      ∙ (ap (λ (w : List ℕ). LogUnresolved (letter_name names two.x) (text_of_word names w)
      (text_of_word names one.other)) (one_unresolved_label presentation (lines_of log) multipliers first second)
      ∙ (ap (λ (w : List ℕ). LogUnresolved (letter_name names two.x)
      (text_of_word names two.label) (text_of_word names w)) (one_unresolved_other presentation (lines_of log) multipliers first second)
      ∙ sym two.is)))

  -- where they do, that is what is found
  found_exact : {fault : FileFault} (status : Status) (texts : List Text) (line : List ℕ)
      → FindsByLog given presentation log accepts multipliers status texts line
      → IsUnresolvedFault given presentation log accepts multipliers fault
      → status ≡ Refused (File (log_file given.file) fault)
  found_exact status texts line (own_by_log passes is_own agree) is =
      absurd (none_unresolved presentation (lines_of log) multipliers agree is.unresolved.first)
  found_exact status texts line (refuted_by_log {cert = cert} first settled) is =
      absurd (is.unresolved.unsettled
      (settles_passed cert first settled is.unresolved.passes))
  found_exact status texts line (too_many_by_log {which = which} first) is =
      absurd (passed_not_counted checked is.unresolved.passes which first)
  found_exact status texts line (unresolved_by_log also) is =
      ap (λ (f : FileFault). Refused (File (log_file given.file) f)) (one_fault also is)

  pub shown_exact : {before after : Outside} {status : Status} {name : List ℕ} {fault : FileFault}
      → ShowMeans (FindsByLog given presentation log accepts multipliers) before after status
      → IsRefusedFor (IsUnresolvedFault given presentation log accepts multipliers)
      (log_file given.file) name fault
      → IsFaultless status → IsRefusalOrMemory name fault status
  shown_exact {fault = fault}
      (shown {status = status} {texts = texts} {line = line} finds holds unread written) refused
      faultless =
      inl (found_exact status texts line finds refused.has
      ∙ ap (λ (n : List ℕ). Refused (File n fault)) (sym refused.is))
  shown_exact (output_failed finds holds unread front) refused faultless = cc
  shown_exact (store_failed finds stops) refused faultless = cc
  shown_exact (no_memory_stored finds first) refused faultless = inr refl
  shown_exact (no_memory unchanged) refused faultless = inr refl

-- what is left open of what files hold is left open of the same that they hold
module _ (given : CheckGiven) {files : Files} {one other : Presentation} {log again : Log}
    {accepts second : Automaton} {multipliers more : List Automaton}
    (held : HoldStructure files given.file one accepts multipliers)
    (log_is : HoldsLogBeside files given.file one log)
    (also : HoldStructure files given.file other second more)
    (also_log : HoldsLogBeside files given.file other again) where
  abbrev logged : HoldLogged files given.file one log
  logged = record { group = held.group; log_is = log_is }

  abbrev also_logged : HoldLogged files given.file other again
  also_logged = record { group = also.group; log_is = also_log }

  same_parts : parts_of one ≡ parts_of other
  same_parts = one_parts logged also_logged refl refl

  same_lines : lines_of log ≡ lines_of again
  same_lines =
      rules_same log.lines.items again.lines.items (same_logs logged also_logged refl refl).lines

  same_checked : checked_by given one accepts multipliers ≡ checked_by given other second more
  same_checked = one_checked held also refl refl (λ x. refl) given.limits.states

  same_multipliers : multipliers ≡ more
  same_multipliers = ap (λ (c : Checked). c.multipliers) same_checked

  settles_back : Settles (lines_of again) (relations (parts_of other))
      → Settles (lines_of log) (relations (parts_of one))
  settles_back settles =
      let By : List Pair → Type 0 = λ r. Settles r (relations (parts_of other)) in
      let Of : PresentationParts → Type 0 = λ p. Settles (lines_of log) (relations p) in
      subst Of (sym same_parts) (subst By (sym same_lines) settles)

  unresolved_moved : {x : ℕ} {label next : List ℕ}
      → IsUnresolvedBy given one log accepts multipliers x label next
      → IsUnresolvedBy given other again second more x label next
  unresolved_moved {x} {label} {next} unresolved =
      let state = unresolved.state in
      let By : List Pair → Type 0 =
      λ r. IsFirstUnresolved other r multipliers x state label next in
      let Of : List Automaton → Type 0 =
      λ list. IsFirstUnresolved other (lines_of again) list x state label next in
      record {
        passes = subst PassesRelations same_checked unresolved.passes;
        unsettled = λ settles. unresolved.unsettled (settles_back settles);
        state = state;
        first = subst Of same_multipliers
            (subst By same_lines (first_moved one other same_parts (lines_of log) unresolved.first));
      }

  pub fault_moved : {fault : FileFault} → IsUnresolvedFault given one log accepts multipliers fault
      → IsUnresolvedFault given other again second more fault
  fault_moved {fault} is =
      let Is : PresentationParts → Type 0 = λ p. fault
      ≡ LogUnresolved (letter_name p.names is.x) (text_of_word p.names is.label)
      (text_of_word p.names is.other) in
      record {
        x = is.x;
        label = is.label;
        other = is.other;
        unresolved = unresolved_moved is.unresolved;
        is = subst Is same_parts is.is;
      }
