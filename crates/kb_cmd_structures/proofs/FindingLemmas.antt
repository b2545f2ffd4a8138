-- What is found, from what is answered.
use Rattle.std.proofs.Common.{◌≡◌, ℕ, List, [], codes, sym, subst}
use Rattle.kb_word.specs.Presentations.{parts_of}
use Rattle.kb_word.specs.declared.presentation.Presentation.{Presentation}
use Rattle.kb_fsa.specs.Language.{Automaton}
use Rattle.kb_structure.specs.declared.cert.Cert.{Cert}
use Rattle.kb_axioms.specs.declared.answers.Construction.{Construction}
use Rattle.kb_system.specs.declared.ending.Halted.{Halted}
use Rattle.kb_auto.specs.Deciding.{CheckedSays}
use Rattle.kb_auto.specs.declared.answers.Checked.TheVariants as answers
use Rattle.kb_task.specs.Limits.{undecided_line, undecided_words_line}
use Rattle.kb_task.specs.Stores.{Text, texts_of}
use Rattle.kb_task.specs.declared.status.Cert.TheVariants.{Structure}
use Rattle.kb_task.specs.declared.status.Limit.TheVariants.{States}
use Rattle.kb_task.specs.declared.status.Status.{Status}
use Rattle.kb_task.specs.declared.status.Status.TheVariants.{Yes, No, Undecided}
use Rattle.kb_evidence.specs.Files.{halted_texts, limit_of}
use Rattle.kb_cmd_structures.specs.Findings.{HasParts, IsFound}
use Rattle.kb_cmd_structures.specs.Given.{CheckGiven}
use Rattle.kb_cmd_structures.specs.Gpaxioms.{Finds, own, refuted, too_many, unsettled, construction_of}
use Rattle.kb_cmd_structures.specs.Lines.{certificate_line}
use Rattle.kb_cmd_structures.specs.declared.finding.Finding.{Finding}

module _ (given : CheckGiven) (presentation : Presentation) (acceptor : Automaton) (multipliers : List Automaton) (finding : Finding) where
  -- a finding of these parts is found where they are
  found_as : {status : Status} {texts : List Text} {line : List ℕ} → HasParts status texts line finding
      → Finds given presentation acceptor multipliers status texts line → IsFound given presentation acceptor multipliers finding
  found_as {status = status} {texts = texts} {line = line} parts finds =
      let S : Status → Type 0 = λ s. Finds given presentation acceptor multipliers s texts line in
      let T : List Text → Type 0 = λ t. Finds given presentation acceptor multipliers finding.status t line in
      let W : List ℕ → Type 0 =
      λ l. Finds given presentation acceptor multipliers finding.status (texts_of finding.files.items) l in
      subst W (sym parts.writes) (subst T (sym parts.stores) (subst S (sym parts.ends) finds))

  pub found-own : HasParts Yes [] (codes "yes\n") finding
      → CheckedSays given.limits presentation acceptor multipliers answers.Yes → IsFound given presentation acceptor multipliers finding
  found-own parts says = found_as parts (own says.0 says.1)

  pub found-refuted : (cert : Cert) → HasParts (No (Structure cert)) [] (certificate_line presentation.names cert) finding
      → CheckedSays given.limits presentation acceptor multipliers (answers.No cert) → IsFound given presentation acceptor multipliers finding
  found-refuted cert parts says = found_as parts (refuted says)

  pub found-too_many : (which : Construction)
      → HasParts (Undecided (States (construction_of which))) [] (undecided_line presentation.names (States (construction_of which))) finding
      → CheckedSays given.limits presentation acceptor multipliers (answers.TooManyStates which)
      → IsFound given presentation acceptor multipliers finding
  found-too_many which parts says = found_as parts (too_many says)

  pub found-unsettled : (halted : Halted) (own_file : List ℕ) → own_file ≡ given.file
      → HasParts (Undecided (limit_of halted.reached))
      (halted_texts own_file (parts_of presentation) halted.lines.items halted.waiting halted.rules.rules)
      (undecided_words_line presentation.names (limit_of halted.reached) halted.waiting.left halted.waiting.right) finding
      → CheckedSays given.limits presentation acceptor multipliers (answers.Halted halted)
      → IsFound given presentation acceptor multipliers finding
  found-unsettled halted own_file file parts says =
      let P : List ℕ → Type 0 = λ name. HasParts (Undecided (limit_of halted.reached))
      (halted_texts name (parts_of presentation) halted.lines.items halted.waiting halted.rules.rules)
      (undecided_words_line presentation.names (limit_of halted.reached) halted.waiting.left halted.waiting.right) finding in
      found_as (subst P file parts) (unsettled {halted = halted} (record { passes = says.0; halts = says.1; unresolved = says.2 }))
