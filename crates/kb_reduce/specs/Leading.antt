-- Automata by which the letters of a word lead to its least word.
use Rattle.std.specs.Prelude.{◌≡◌, List, []}
use Rattle.kb_word.specs.Relations.{relations_of}
use Rattle.kb_word.specs.declared.presentation.Presentation.{Presentation}
use Rattle.kb_fsa.specs.Language.{Automaton, Accepts}
use Rattle.kb_fsa.specs.declared.alphabet.Alphabet.TheVariants.{Plain}
use Rattle.kb_structure.specs.Structure.{IsAutomaticStructure}
use Rattle.kb_structure.specs.StructureOf.{structure_of}
use Rattle.kb_relations.specs.Images.{CanBeFollowed}

-- The automata are the own automatic structure of the group that is presented, and words can be followed by them from
-- the empty word on. Epstein et al., Word Processing in Groups, 2.3.
pub record LeadToLeastWords (presentation : Presentation) (acceptor : Automaton)
    (multipliers : List Automaton) : Type 0 where
  pub alphabet : acceptor.alphabet ≡ Plain presentation.n
  pub own : IsAutomaticStructure (structure_of presentation.order
      (relations_of presentation.inv presentation.eqs) acceptor multipliers)
  pub followed : CanBeFollowed acceptor multipliers
  pub empty_word : Accepts acceptor []
