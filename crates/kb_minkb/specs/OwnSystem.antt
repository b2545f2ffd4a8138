-- Automata that are a group's own structure.
use Rattle.std.specs.Prelude.{List}
use Rattle.kb_word.specs.Words.{Pair as Sides}
use Rattle.kb_word.specs.declared.word_order.WordOrder.{WordOrder}
use Rattle.kb_fsa.specs.Language.{Automaton, IsAutomaton}
use Rattle.kb_structure.specs.Structure.{AreOverGenerators, IsAutomaticStructure}
use Rattle.kb_structure.specs.StructureOf.{FitTogether, structure_of}

-- the automata are the own structure of the group with these relations, by the order of words
pub record IsOwn (order : WordOrder) (relations : List Sides) (acceptor : Automaton)
    (multipliers : List Automaton) : Type 0 where
  pub words : IsAutomaton acceptor
  pub fit : FitTogether acceptor multipliers
  pub over : AreOverGenerators (structure_of order relations acceptor multipliers)
  pub structure : IsAutomaticStructure (structure_of order relations acceptor multipliers)
