-- What a run of `gpminkb` means by its status.
use Rattle.std.specs.Prelude.{◌≡◌, ℕ, List, [], codes}
use Rattle.kb_word.specs.declared.presentation.Presentation.{Presentation}
use Rattle.kb_fsa.specs.Language.{Automaton}
use Rattle.kb_structure.specs.Structure.{IsAutomaticStructure}
use Rattle.kb_axioms.specs.Checked.{PassesRelations, own_structure}
use Rattle.kb_minkb.specs.LeftSides.{CountedMinred}
use Rattle.kb_minkb.specs.Rules.{CountedMinkb}
use Rattle.kb_task.specs.Limits.{undecided_line}
use Rattle.kb_task.specs.Promises.{Promise}
use Rattle.kb_task.specs.Statuses.{IsAnswer, IsYes}
use Rattle.kb_task.specs.Stores.{Text}
use Rattle.kb_task.specs.declared.status.Construction.TheVariants.{Minred, Minkb}
use Rattle.kb_task.specs.declared.status.Limit.TheVariants.{States}
use Rattle.kb_task.specs.declared.status.Status.{Status}
use Rattle.kb_task.specs.declared.status.Status.TheVariants.{Yes, Undecided}
use Rattle.kb_evidence.specs.Files.{minred_file, minkb_file}
use Rattle.kb_cmd_structures.specs.CanonicalForms.{IsCanonicalForm, AreCanonicalForms}
use Rattle.kb_cmd_structures.specs.Given.{CheckGiven}
use Rattle.kb_cmd_structures.specs.Gpaxioms.{Finds, GpaxiomsMayStore, GpaxiomsReads, GpaxiomsSettles, IsGpaxiomsUnrefused, checked_by}
use Rattle.kb_cmd_structures.specs.Loaded.{IsStructureRefused}
use Rattle.kb_cmd_structures.specs.ReducedSystem.{IsSystemOf, system_texts}
use Rattle.kb_cmd_structures.specs.Shown.{StructureMeans}

-- the automata are the group's own structure, by `gpaxioms`, and these are their canonical forms
pub record AreOwnForms (given : CheckGiven) (presentation : Presentation) (acceptor : Automaton)
    (multipliers : List Automaton) (form : Automaton) (forms : List Automaton) : Type 0 where
  pub passes : PassesRelations (checked_by given presentation acceptor multipliers)
  pub own : IsAutomaticStructure
      (own_structure (checked_by given presentation acceptor multipliers))
  pub acceptor_form : IsCanonicalForm acceptor form
  pub multiplier_forms : AreCanonicalForms multipliers forms

-- What is found: the status, the files that are stored, and the line that is written. The automata are the group's
-- own, and the reduced complete system was made of their canonical forms, with no count above the limit; or its left
-- sides are counted above the limit; or its left sides aren't, but its rules are. Or else it is what `gpaxioms`
-- finds, if that isn't yes.
pub data FindsSystem (given : CheckGiven) (presentation : Presentation) (acceptor : Automaton)
    (multipliers : List Automaton) : Status → List Text → List ℕ → Type 0 where
  system : {form minred minkb : Automaton} {forms : List Automaton}
      → AreOwnForms given presentation acceptor multipliers form forms
      → (¬ CountedMinred form given.limits.states)
      → (¬ CountedMinkb form forms given.limits.states)
      → IsSystemOf presentation minred minkb
      → FindsSystem given presentation acceptor multipliers Yes
      (system_texts given.file presentation.names minred minkb) (codes "yes\n")
  many_left_sides : {form : Automaton} {forms : List Automaton}
      → AreOwnForms given presentation acceptor multipliers form forms
      → CountedMinred form given.limits.states
      → FindsSystem given presentation acceptor multipliers (Undecided (States Minred)) []
      (undecided_line presentation.names (States Minred))
  many_rules : {form : Automaton} {forms : List Automaton}
      → AreOwnForms given presentation acceptor multipliers form forms
      → (¬ CountedMinred form given.limits.states)
      → CountedMinkb form forms given.limits.states
      → FindsSystem given presentation acceptor multipliers (Undecided (States Minkb)) []
      (undecided_line presentation.names (States Minkb))
  not_own : {status : Status} {texts : List Text} {line : List ℕ}
      → Finds given presentation acceptor multipliers status texts line → (¬ IsYes status)
      → FindsSystem given presentation acceptor multipliers status texts line

-- it may store what `gpaxioms` may, and the automata of the left sides and of the rules
pub data GpminkbMayStore (given : CheckGiven) (name : List ℕ) : Type 0 where
  stores_evidence : GpaxiomsMayStore given name → GpminkbMayStore given name
  stores_left_sides : name ≡ minred_file given.file → GpminkbMayStore given name
  stores_system_rules : name ≡ minkb_file given.file → GpminkbMayStore given name

-- It is given and reads what `gpaxioms` is given and reads, and the files settle as much.
abbrev pub gpminkb_promise : CheckGiven → Promise CheckGiven
gpminkb_promise given = record {
  means = StructureMeans (FindsSystem given) given.file;
  may_store = GpminkbMayStore given;
  settled_stores = GpminkbMayStore given;
  reads = GpaxiomsReads given;
  refuses = λ before. IsStructureRefused before.shelf.holds given.file;
  is_unrefused = IsGpaxiomsUnrefused given;
  answers = IsAnswer;
  settles = GpaxiomsSettles;
  differs_in_options = λ other. given.file ≡ other.file;
}
