-- One automaton that reads any number of accepted words. It has one state more, the mark, to which the products lead.
use Rattle.std.specs.Prelude.{◌≡◌, ◌↔◌, ℕ, ◌+◌, ◌<◌, ◌≤◌, List, length}
use Rattle.kb_word.specs.Relations.{IsOver}
use Rattle.kb_fsa.specs.Table.{step}
use Rattle.kb_fsa.specs.Language.{Automaton, generators, symbols}
use Rattle.kb_fsa.specs.Canonical.{IsState}
use Rattle.kb_fsa.specs.Counted.{IsProduct, IsAfterProduct}
use Rattle.kb_fsadet.specs.Nondeterministic.{Nondeterministic, LeadsSomehow, AcceptsSomehow}

-- to what states words lead in it
pub record IsStarNfa (automaton : Automaton) (nfa : Nondeterministic) : Type 0 where
  pub states : (word : List ℕ) (state : ℕ) → state ≤ length automaton.table.rows
      → LeadsSomehow nfa word state
      ↔ IsAfterProduct automaton word state
  pub mark : (word : List ℕ)
      → LeadsSomehow nfa word (length automaton.table.rows + 1) ↔ IsProduct automaton word
  pub no_others : (word : List ℕ) (state : ℕ) → LeadsSomehow nfa word state
      → (state ≤ length automaton.table.rows + 1) × IsOver (generators automaton.alphabet) word
  pub are_states : (word : List ℕ) (state : ℕ) → IsAfterProduct automaton word state
      → state ≤ length automaton.table.rows
  pub language : (word : List ℕ) → AcceptsSomehow nfa word ↔ IsProduct automaton word

-- some state has no move by some symbol of the alphabet
pub record LacksMove (automaton : Automaton) : Type 0 where
  pub state : ℕ
  pub is_state : IsState automaton.table state
  pub symbol : ℕ
  pub is_symbol : (0 < symbol) × (symbol ≤ symbols automaton.alphabet)
  pub none : step automaton.table state symbol ≡ 0
