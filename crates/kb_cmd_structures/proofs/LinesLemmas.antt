-- What the lines of a log decide of automata, from what is answered by them.
use Rattle.std.proofs.Common.{◌≡◌, ℕ, List, [], codes, length, refl, sym, ap, subst}
use Rattle.std.specs.Prelude.{◌↔◌, Bool, IsTrue, IfOk, Result, Ok, Err}
use Rattle.kb_word.specs.Congruence.{SameCongruence}
use Rattle.kb_word.specs.Presentations.{parts_of}
use Rattle.kb_word.specs.Printed.{letter_name, text_of_word}
use Rattle.kb_word.specs.Words.{Pair}
use Rattle.kb_word.specs.declared.memory.Memory.{Memory}
use Rattle.kb_word.specs.declared.presentation.Presentation.{Presentation}
use Rattle.kb_fsa.specs.Language.{Automaton}
use Rattle.kb_structure.specs.Structure.{IsAutomaticStructure}
use Rattle.kb_structure.specs.declared.cert.Cert.{Cert}
use Rattle.kb_structure.specs.declared.cert.Cert.TheVariants.{N3}
use Rattle.kb_proof.specs.declared.log.Log.{Log}
use Rattle.kb_bylog.specs.LogLines.{AreJoined, Settles, lines_of, relations}
use Rattle.kb_axioms.specs.Answered.{AxiomsSay, IsFoundBy, checked_in}
use Rattle.kb_axioms.specs.Checked.{own_structure}
use Rattle.kb_axioms.specs.Truth.{AgreeUpTo, AreConfluentRulesOf, IsFirstUnresolved}
use Rattle.kb_axioms.specs.declared.answers.Axioms.{Axioms}
use Rattle.kb_axioms.specs.declared.answers.Axioms.TheVariants as answers
use Rattle.kb_axioms.specs.declared.answers.Construction.{Construction}
use Rattle.kb_task.specs.Limits.{undecided_line}
use Rattle.kb_task.specs.Stores.{Text, texts_of}
use Rattle.kb_task.specs.declared.status.Cert.TheVariants.{Structure}
use Rattle.kb_task.specs.declared.status.FileFault.{FileFault}
use Rattle.kb_task.specs.declared.status.FileFault.TheVariants.{LogUnresolved}
use Rattle.kb_task.specs.declared.status.Limit.TheVariants.{States}
use Rattle.kb_task.specs.declared.status.Refusal.TheVariants.{File}
use Rattle.kb_task.specs.declared.status.Status.{Status}
use Rattle.kb_task.specs.declared.status.Status.TheVariants.{Yes, No, Refused, Undecided}
use Rattle.kb_evidence.specs.Files.{log_file}
use Rattle.kb_cmd_structures.specs.ByLog.{FindsByLog, IsSettledFor, own_by_log, refuted_by_log, too_many_by_log, unresolved_by_log}
use Rattle.kb_cmd_structures.specs.Findings.{HasParts}
use Rattle.kb_cmd_structures.specs.Given.{CheckGiven}
use Rattle.kb_cmd_structures.specs.Gpaxioms.{construction_of}
use Rattle.kb_cmd_structures.specs.Lines.{certificate_line}
use Rattle.kb_cmd_structures.specs.Logged.{IsFoundByLog, LinesSay}
use Rattle.kb_cmd_structures.specs.declared.finding.Finding.{Finding}

-- ---- the lines as rules

-- lines that settle the relations are confluent rules of the group
pub confluent_rules : (presentation : Presentation) (log : Log) (rules : List Pair) → rules ≡ lines_of log
    → (AreJoined (lines_of log) (relations (parts_of presentation)) → SameCongruence (relations (parts_of presentation)) (lines_of log))
    → Settles rules (relations (parts_of presentation)) → AreConfluentRulesOf presentation rules
confluent_rules presentation log rules is generate settles =
    let Joined : List Pair → Type 0 = λ r. AreJoined r (relations (parts_of presentation)) in
    let Same : List Pair → Type 0 = λ r. SameCongruence (relations (parts_of presentation)) r in
    record { confluent = settles.confluent; same = subst Same (sym is) (generate (subst Joined is settles.joined)) }

-- ---- what is answered

module _ (given : CheckGiven) (presentation : Presentation) (log : Log) (acceptor : Automaton) (multipliers : List Automaton) (rules : List Pair)
    (settled : Bool) (is : rules ≡ lines_of log) (says_settled : IsTrue settled ↔ Settles rules (relations (parts_of presentation))) where
  unsettled : (¬ IsTrue settled) → ¬ Settles (lines_of log) (relations (parts_of presentation))
  unsettled undecided settles =
      let Of : List Pair → Type 0 = λ r. Settles r (relations (parts_of presentation)) in
      undecided (says_settled.1 (subst Of (sym is) settles))

  settled_for : (cert : Cert) → IsFoundBy settled cert → IsSettledFor presentation log cert
  settled_for (N3 x u v) known =
      let Of : List Pair → Type 0 = λ r. Settles r (relations (parts_of presentation)) in
      subst Of is (says_settled.0 known)
  settled_for _ known = tt

  says_of : (axioms : Axioms)
      → AxiomsSay presentation rules settled acceptor multipliers given.limits.states axioms
      → (axioms ≡ answers.Yes → IsAutomaticStructure (own_structure (checked_in presentation acceptor multipliers given.limits.states)))
      → LinesSay given presentation log acceptor multipliers axioms
  says_of answers.Yes says own =
      let Agree : List Pair → Type 0 = λ r. AgreeUpTo presentation r multipliers (length multipliers) in
      (says.0, own refl, subst Agree is says.1)
  says_of (answers.No cert) says own = (says.0, settled_for cert says.1)
  says_of (answers.TooManyStates which) says own = says
  says_of (answers.Unresolved x state label other) says own =
      let First : List Pair → Type 0 = λ r. IsFirstUnresolved presentation r multipliers x state label other in
      record { passes = says.0; unsettled = unsettled says.1; state = state; first = subst First is says.2 }

  pub lines_say : (result : Result Axioms Memory)
      → IfOk result (AxiomsSay presentation rules settled acceptor multipliers given.limits.states)
      → (result ≡ Ok answers.Yes → IsAutomaticStructure (own_structure (checked_in presentation acceptor multipliers given.limits.states)))
      → IfOk result (LinesSay given presentation log acceptor multipliers)
  lines_say (Ok axioms) says own = says_of axioms says (λ is_yes. own (ap (λ (a : Axioms). Ok a) is_yes))
  lines_say (Err error) says own = tt

-- ---- what is found

module _ (given : CheckGiven) (presentation : Presentation) (log : Log) (acceptor : Automaton) (multipliers : List Automaton) (finding : Finding) where
  -- a finding of these parts is found where they are
  found_as : {status : Status} {texts : List Text} {line : List ℕ} → HasParts status texts line finding
      → FindsByLog given presentation log acceptor multipliers status texts line → IsFoundByLog given presentation log acceptor multipliers finding
  found_as {status = status} {texts = texts} {line = line} parts finds =
      let S : Status → Type 0 = λ s. FindsByLog given presentation log acceptor multipliers s texts line in
      let T : List Text → Type 0 = λ t. FindsByLog given presentation log acceptor multipliers finding.status t line in
      let W : List ℕ → Type 0 =
      λ l. FindsByLog given presentation log acceptor multipliers finding.status (texts_of finding.files.items) l in
      subst W (sym parts.writes) (subst T (sym parts.stores) (subst S (sym parts.ends) finds))

  pub lines-own : HasParts Yes [] (codes "yes\n") finding → LinesSay given presentation log acceptor multipliers answers.Yes
      → IsFoundByLog given presentation log acceptor multipliers finding
  lines-own parts says = found_as parts (own_by_log says.0 says.1 says.2)

  pub lines-refuted : (cert : Cert) → HasParts (No (Structure cert)) [] (certificate_line presentation.names cert) finding
      → LinesSay given presentation log acceptor multipliers (answers.No cert) → IsFoundByLog given presentation log acceptor multipliers finding
  lines-refuted cert parts says = found_as parts (refuted_by_log says.0 says.1)

  pub lines-too_many : (which : Construction)
      → HasParts (Undecided (States (construction_of which))) [] (undecided_line presentation.names (States (construction_of which))) finding
      → LinesSay given presentation log acceptor multipliers (answers.TooManyStates which)
      → IsFoundByLog given presentation log acceptor multipliers finding
  lines-too_many which parts says = found_as parts (too_many_by_log says)

  pub lines-unresolved : (x state : ℕ) (label other : List ℕ) (own_file : List ℕ) → own_file ≡ given.file
      → HasParts (Refused (File (log_file own_file) (LogUnresolved (letter_name presentation.names x) (text_of_word presentation.names label)
      (text_of_word presentation.names other)))) [] [] finding
      → LinesSay given presentation log acceptor multipliers (answers.Unresolved x state label other)
      → IsFoundByLog given presentation log acceptor multipliers finding
  lines-unresolved x state label other own_file file parts says =
      let fault : FileFault = LogUnresolved (letter_name presentation.names x) (text_of_word presentation.names label)
      (text_of_word presentation.names other) in
      let P : List ℕ → Type 0 = λ name. HasParts (Refused (File (log_file name) fault)) [] [] finding in
      found_as (subst P file parts)
      (unresolved_by_log {fault = fault} (record { x = x; label = label; other = other; unresolved = says; is = refl }))
