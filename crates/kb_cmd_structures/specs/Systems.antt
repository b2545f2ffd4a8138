-- What is made of a group's own structure, as the code has it.
use Rattle.std.specs.Prelude.{◌≡◌, ◌↔◌, ℕ, List, [], codes, length}
use Rattle.kb_word.specs.Relations.{IsOver}
use Rattle.kb_word.specs.declared.presentation.Presentation.{Presentation}
use Rattle.kb_fsa.specs.Canonical.{IsCanonical}
use Rattle.kb_fsa.specs.Language.{Accepts, AcceptsPair, Automaton, IsAutomaton, generators}
use Rattle.kb_fsa.specs.declared.alphabet.Alphabet.TheVariants.{Pair}
use Rattle.kb_explore.specs.declared.det.Det.{Det}
use Rattle.kb_explore.specs.declared.det.Det.TheVariants as dets
use Rattle.kb_minkb.specs.LeftSides.{AcceptsEachState, CountedMinred, IsLeftSide}
use Rattle.kb_minkb.specs.Rules.{CountedMinkb, IsRule}
use Rattle.kb_task.specs.Limits.{undecided_line}
use Rattle.kb_task.specs.Stores.{texts_of}
use Rattle.kb_task.specs.declared.status.Construction.TheVariants.{Minred, Minkb}
use Rattle.kb_task.specs.declared.status.Limit.TheVariants.{States}
use Rattle.kb_task.specs.declared.status.Status.TheVariants.{Yes, Undecided}
use Rattle.kb_cmd_structures.specs.Findings.{HasParts}
use Rattle.kb_cmd_structures.specs.Given.{CheckGiven}
use Rattle.kb_cmd_structures.specs.Gpminkb.{FindsSystem}
use Rattle.kb_cmd_structures.specs.ReducedSystem.{system_texts}
use Rattle.kb_cmd_structures.specs.declared.finding.Finding.{Finding}
use Rattle.kb_cmd_structures.specs.declared.system.Reduced.{Reduced}
use Rattle.kb_cmd_structures.specs.declared.system.Reduced.TheVariants.{System, TooManyStates}

-- this is found
abbrev pub IsSystemFound : CheckGiven → Presentation → Automaton → List Automaton → Finding
    → Type 0
IsSystemFound given presentation acceptor multipliers finding =
    FindsSystem given presentation acceptor multipliers finding.status
    (texts_of finding.files.items) finding.line.items

-- these are the left sides and the rules that the automata have
pub record AreSystemOf (acceptor : Automaton) (multipliers : List Automaton)
    (left_sides rules : Automaton) : Type 0 where
  pub are_left_sides : AcceptsEachState acceptor → (w : List ℕ)
      → Accepts left_sides w ↔ IsLeftSide acceptor w
  pub are_rules : AcceptsEachState acceptor → (u v : List ℕ)
      → IsOver (generators acceptor.alphabet) u → IsOver (generators acceptor.alphabet) v
      → AcceptsPair rules u v ↔ IsRule acceptor multipliers u v
  pub left_sides_canonical : IsCanonical left_sides.table
  pub rules_canonical : IsCanonical rules.table
  pub words : left_sides.alphabet ≡ acceptor.alphabet
  pub pairs : rules.alphabet ≡ Pair (generators acceptor.alphabet)
  pub left_sides_is : IsAutomaton left_sides
  pub rules_is : IsAutomaton rules

-- The system of these automata, where neither count is above the limit; or the left sides are counted above it; or they
-- aren't, but the rules are.
abbrev pub ReducedSays : Automaton → List Automaton → ℕ → Reduced → Type 0
ReducedSays acceptor multipliers limit (System left_sides rules) =
    AreSystemOf acceptor multipliers left_sides rules
    × (¬ CountedMinred acceptor limit) × (¬ CountedMinkb acceptor multipliers limit)
ReducedSays acceptor multipliers limit (TooManyStates Minred) = CountedMinred acceptor limit
ReducedSays acceptor multipliers limit (TooManyStates Minkb) =
    (¬ CountedMinred acceptor limit) × CountedMinkb acceptor multipliers limit
ReducedSays acceptor multipliers limit (TooManyStates which) = ⊥

-- a construction had too many states
abbrev pub IsTooManyStates : Det → Type 0
IsTooManyStates (dets.TooManyStates limit) = Unit {0}
IsTooManyStates dets.Memory = ⊥

-- the automaton can be printed with these names
pub record IsPrintable (names : List (List ℕ)) (automaton : Automaton) : Type 0 where
  pub canonical : IsCanonical automaton.table
  pub one_name : length names ≡ generators automaton.alphabet

abbrev pub CanBePrinted : List (List ℕ) → Reduced → Type 0
CanBePrinted names (System left_sides rules) =
    IsPrintable names left_sides × IsPrintable names rules
CanBePrinted names (TooManyStates which) = Unit {0}

-- what is stored and written of it
abbrev pub IsReducedFinding : List ℕ → List (List ℕ) → Reduced → Finding → Type 0
IsReducedFinding file names (System left_sides rules) finding =
    HasParts Yes (system_texts file names left_sides rules) (codes "yes\n") finding
IsReducedFinding file names (TooManyStates which) finding =
    HasParts (Undecided (States which)) [] (undecided_line names (States which)) finding
