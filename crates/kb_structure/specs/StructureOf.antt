-- Which structure automata are: a word acceptor, and a multiplier for each generator.
use Rattle.std.specs.Prelude.{◌≡◌, ℕ, zero, suc, Bool, false, List, length, Option, Some, None, slice_get}
use Rattle.kb_word.specs.Words.{Pair as Sides}
use Rattle.kb_word.specs.declared.word_order.WordOrder.{WordOrder}
use Rattle.kb_fsa.specs.declared.alphabet.Alphabet.TheVariants.{Plain, Pair}
use Rattle.kb_fsa.specs.Table.{state_after, is_accepting}
use Rattle.kb_fsa.specs.Padding.{padded}
use Rattle.kb_fsa.specs.Language.{Automaton, generators}
use Rattle.kb_structure.specs.Structure.{Structure}

-- whether the automaton accepts the text
abbrev pub accepts_text : Automaton → List ℕ → Bool
accepts_text automaton text = is_accepting automaton.table (state_after automaton.table text)

-- whether the automaton, where there is one, accepts the pair of words
abbrev pub accepts_pair : Option Automaton → List ℕ → List ℕ → Bool
accepts_pair None u v = false
accepts_pair (Some automaton) u v =
    accepts_text automaton (padded (generators automaton.alphabet) u v)

-- the multiplier of a generator, which are numbered from 1: it is the one before the generator's number
abbrev pub multiplier_of : List Automaton → ℕ → Option Automaton
multiplier_of multipliers zero = None
multiplier_of multipliers (suc place) = slice_get multipliers place

-- the structure that the automata are, by an order of words and the relations of a group
abbrev pub structure_of : WordOrder → List Sides → Automaton → List Automaton → Structure
structure_of order relations acceptor multipliers = record {
  n = generators acceptor.alphabet;
  order = order;
  relations = relations;
  acceptor = accepts_text acceptor;
  multiplier = λ x. accepts_pair (multiplier_of multipliers x);
}

-- The automata fit together: the acceptor reads words over n generators, and there are n multipliers, which read pairs
-- of words over as many.
pub record FitTogether (acceptor : Automaton) (multipliers : List Automaton) : Type 0 where
  pub words : acceptor.alphabet ≡ Plain (generators acceptor.alphabet)
  pub one_each : length multipliers ≡ generators acceptor.alphabet
  pub pairs : (x : ℕ) (multiplier : Automaton) → multiplier_of multipliers x ≡ Some multiplier
      → multiplier.alphabet ≡ Pair (generators acceptor.alphabet)

-- the fact holds of the structure that the automata are, whatever the order and the relations
abbrev pub OfAutomata : Automaton → List Automaton → (Structure → Type 0) → Type 0
OfAutomata acceptor multipliers Holds = (order : WordOrder) (relations : List Sides)
    → Holds (structure_of order relations acceptor multipliers)
