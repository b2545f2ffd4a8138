-- Loops on their way.
use Rattle.kb_structure.specs.StructureOf.{OfAutomata}
use Rattle.std.specs.Prelude.{ℕ, List, drop}
use Rattle.kb_fsa.specs.Language.{Automaton, Accepts}
use Rattle.kb_structure.specs.Structure.{Follows}

-- The letters before the place lead from the word to the end, which is accepted: where the rest leads from there, all
-- of them lead from the word.
pub record AreFollowedTo (acceptor : Automaton) (multipliers : List Automaton)
    (letters from : List ℕ) (place : ℕ) (end : List ℕ) : Type 0 where
  pub accepted : Accepts acceptor end
  pub whole : OfAutomata acceptor multipliers (λ structure. (v : List ℕ)
      → Follows structure (drop place letters) end v
      → Follows structure letters from v)
