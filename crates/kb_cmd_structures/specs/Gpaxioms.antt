-- What a check of a group's automata finds, where a completion decides.
use Rattle.std.specs.Prelude.{◌≡◌, ℕ, ◌<◌, ◌≤◌, List, [], codes}
use Rattle.kb_io.specs.Outside.{Outside}
use Rattle.kb_word.specs.Presentations.{parts_of}
use Rattle.kb_word.specs.declared.presentation.Presentation.{Presentation}
use Rattle.kb_fsa.specs.Language.{Automaton}
use Rattle.kb_structure.specs.Structure.{IsAutomaticStructure}
use Rattle.kb_structure.specs.declared.cert.Cert.{Cert as StructureCert}
use Rattle.kb_axioms.specs.Answered.{IsFirstOfAll, checked_in}
use Rattle.kb_axioms.specs.Checked.{Checked, IsFirstCount, PassesRelations, own_structure}
use Rattle.kb_axioms.specs.declared.answers.Construction.{Construction as Counted}
use Rattle.kb_axioms.specs.declared.answers.Construction.TheVariants as counted
use Rattle.kb_system.specs.Ended.{ShowsHalt}
use Rattle.kb_system.specs.declared.ending.Halted.{Halted}
use Rattle.kb_auto.specs.Deciding.{AreUnresolvedBy}
use Rattle.kb_task.specs.Automata.{IsUnrefused}
use Rattle.kb_task.specs.Limits.{undecided_line, undecided_words_line}
use Rattle.kb_task.specs.Presentations.{IsGroupFault}
use Rattle.kb_task.specs.Stores.{Text}
use Rattle.kb_task.specs.declared.status.Cert.TheVariants.{Structure}
use Rattle.kb_task.specs.declared.status.Construction.{Construction}
use Rattle.kb_task.specs.declared.status.Construction.TheVariants.{Images, Relation}
use Rattle.kb_task.specs.declared.status.Limit.TheVariants.{States}
use Rattle.kb_task.specs.declared.status.Status.{Status}
use Rattle.kb_task.specs.declared.status.Status.TheVariants.{Yes, Undecided, No}
use Rattle.kb_evidence.specs.Files.{acceptor_file, multiplier_file, log_file, rules_file, halted_texts, limit_of}
use Rattle.kb_cmd_structures.specs.Given.{CheckGiven}
use Rattle.kb_cmd_structures.specs.Lines.{certificate_line}
use Rattle.kb_cmd_structures.specs.Loaded.{HoldsGroup, IsAcceptorFault, IsMultiplierFault}

-- what is called after the count that was above the limit
abbrev pub construction_of : Counted → Construction
construction_of (counted.Images x) = Images x
construction_of (counted.Relation number) = Relation number

-- what is checked: the automata, with the group's relations, and how many states a construction may have
abbrev pub checked_by : CheckGiven → Presentation → Automaton → List Automaton → Checked
checked_by given presentation acceptor multipliers =
    checked_in presentation acceptor multipliers given.limits.states

-- the completion halted, as its log shows, and its rules don't settle whether the automata are the group's own
pub record IsUnsettled (given : CheckGiven) (presentation : Presentation) (acceptor : Automaton)
    (multipliers : List Automaton) (halted : Halted) : Type 0 where
  pub passes : PassesRelations (checked_by given presentation acceptor multipliers)
  pub halts : ShowsHalt given.limits (parts_of presentation) halted
  pub unresolved : AreUnresolvedBy presentation halted.rules.rules multipliers

-- What is found of the automata: the status, the files that are stored, and the line that is written. They are the
-- group's own; or the first certificate shows that they aren't; or a count is above the limit, and no certificate comes
-- before it; or the completion halted.
pub data Finds (given : CheckGiven) (presentation : Presentation) (acceptor : Automaton)
    (multipliers : List Automaton) : Status → List Text → List ℕ → Type 0 where
  own : PassesRelations (checked_by given presentation acceptor multipliers)
      → IsAutomaticStructure
      (own_structure (checked_by given presentation acceptor multipliers))
      → Finds given presentation acceptor multipliers Yes [] (codes "yes\n")
  refuted : {cert : StructureCert}
      → IsFirstOfAll (checked_by given presentation acceptor multipliers) cert
      → Finds given presentation acceptor multipliers (No (Structure cert)) []
      (certificate_line presentation.names cert)
  too_many : {which : Counted}
      → IsFirstCount (checked_by given presentation acceptor multipliers) which
      → Finds given presentation acceptor multipliers
      (Undecided (States (construction_of which))) []
      (undecided_line presentation.names (States (construction_of which)))
  unsettled : {halted : Halted} → IsUnsettled given presentation acceptor multipliers halted
      → Finds given presentation acceptor multipliers (Undecided (limit_of halted.reached))
      (halted_texts given.file (parts_of presentation) halted.lines.items halted.waiting
      halted.rules.rules)
      (undecided_words_line presentation.names (limit_of halted.reached)
      halted.waiting.left halted.waiting.right)

-- it may store the log of a completion that halted, and its rules
pub data GpaxiomsMayStore (given : CheckGiven) (name : List ℕ) : Type 0 where
  stores_log : name ≡ log_file given.file → GpaxiomsMayStore given name
  stores_rules : name ≡ rules_file given.file → GpaxiomsMayStore given name

-- it reads the files of the group, of the word acceptor, and of the generators' multipliers
pub data GpaxiomsReads (given : CheckGiven) (name : List ℕ) : Type 0 where
  reads_group : name ≡ given.file → GpaxiomsReads given name
  reads_acceptor : name ≡ acceptor_file given.file → GpaxiomsReads given name
  reads_multiplier : (x : ℕ) → name ≡ multiplier_file given.file x → GpaxiomsReads given name

-- none of the files is refused: not that of the group, nor those of the automata by the group that its file holds
pub record IsGpaxiomsUnrefused (given : CheckGiven) (before : Outside) : Type 0 where
  pub group : IsUnrefused (IsGroupFault before.shelf.holds given.file)
  pub acceptor : (presentation : Presentation)
      → HoldsGroup before.shelf.holds given.file presentation
      → IsUnrefused (IsAcceptorFault before.shelf.holds given.file presentation)
  pub multipliers : (presentation : Presentation) (x : ℕ)
      → HoldsGroup before.shelf.holds given.file presentation → 0 < x → x ≤ presentation.n
      → IsUnrefused (IsMultiplierFault before.shelf.holds given.file presentation x)

-- the answers that the files settle: yes, no with its certificate, and a count of states above the limit; not that a
-- completion halted
abbrev pub GpaxiomsSettles : Status → Type 0
GpaxiomsSettles Yes = Unit {0}
GpaxiomsSettles (No cert) = Unit {0}
GpaxiomsSettles (Undecided (States which)) = Unit {0}
GpaxiomsSettles _ = ⊥
