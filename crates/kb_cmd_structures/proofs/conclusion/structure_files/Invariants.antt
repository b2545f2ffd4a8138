use Rattle.std.proofs.Common.{◌≡◌, ℕ, ◌<◌, Some, slice_get}
use Rattle.kb_fsa.specs.Language.{Automaton, IsAutomaton}
use Rattle.kb_cmd_structures.specs.Made.{structure_texts}
use Rattle.kb_cmd_structures.proofs.MadeStructures.{IsPart}
use Rattle.kb_cmd_structures.proofs.conclusion.structure_files.Given as goal

-- the files so far and those of the multipliers that are left are all, and those so far are automata
abbrev pub invariant-loop-place : goal.invariant-loop-place
invariant-loop-place l = record {
  part : IsPart l.file l.names l.structure.multipliers.items
      (structure_texts l.file l.names l.structure.acceptor l.structure.multipliers.items) l.files.items l.place;
  automata : (k : ℕ) (multiplier : Automaton) → k < l.place → slice_get l.structure.multipliers.items k ≡ Some multiplier
      → IsAutomaton multiplier;
}
