-- The words and the pairs of the structure that automata are.
use Rattle.std.proofs.Common.{◌≡◌, ◌↔◌, ℕ, IsTrue, List, Option, Some, sym, subst, arith}
use Rattle.kb_word.specs.Words.{Pair as Sides}
use Rattle.kb_word.specs.Relations.{IsOver}
use Rattle.kb_word.specs.declared.word_order.WordOrder.{WordOrder}
use Rattle.kb_fsa.specs.declared.alphabet.Alphabet.{Alphabet}
use Rattle.kb_fsa.specs.declared.alphabet.Alphabet.TheVariants.{Plain}
use Rattle.kb_fsa.specs.Table.{state_after}
use Rattle.kb_fsa.specs.Language.{Automaton, IsAutomaton, IsTextOf, AcceptsText, AcceptsPair, generators}
use Rattle.kb_fsa.proofs.Lookups.{accepting_positive}
use Rattle.kb_structure.specs.Structure.{Structure, Accepts, Multiplies}
use Rattle.kb_structure.specs.StructureOf.{accepts_pair, multiplier_of, structure_of}

module _ (order : WordOrder) (relations : List Sides) (acceptor : Automaton) (multipliers : List Automaton) where
  abbrev structure : Structure
  structure = structure_of order relations acceptor multipliers

  -- the structure accepts what the acceptor does
  pub accepts_word : acceptor.alphabet ≡ Plain (generators acceptor.alphabet) → IsAutomaton acceptor → (w : List ℕ)
      → Accepts structure w ↔ AcceptsText acceptor w
  accepts_word plain is w = (
    λ accepts. accepts.accepted,
    λ accepts.
        let positive = accepting_positive acceptor.table (state_after acceptor.table w) accepts in
        let P : Alphabet → Type 0 = λ alphabet. IsTextOf alphabet w in
        record {
          letters = subst P plain (is.texts w (λ none. omega arith));
          accepted = accepts;
        },
  )

  module _ (x : ℕ) (multiplier : Automaton) (at : multiplier_of multipliers x ≡ Some multiplier) where
    -- it multiplies by x as the multiplier of x does
    pub multiplied_pair : (u v : List ℕ) → Multiplies structure x u v → AcceptsPair multiplier u v
    multiplied_pair u v multiplies =
        let P : Option Automaton → Type 0 = λ one. IsTrue (accepts_pair one u v) in subst P at multiplies.accepted

    pub pair_multiplied : (u v : List ℕ) → IsOver (generators acceptor.alphabet) u → IsOver (generators acceptor.alphabet) v
        → AcceptsPair multiplier u v → Multiplies structure x u v
    pair_multiplied u v first second accepts =
        let P : Option Automaton → Type 0 = λ one. IsTrue (accepts_pair one u v) in record {
          first_letters = first;
          second_letters = second;
          accepted = subst P (sym at) accepts;
        }
