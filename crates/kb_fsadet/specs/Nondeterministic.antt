-- Nondeterministic automata. Rabin, Scott, Finite Automata and Their Decision Problems (1959).
use Rattle.std.specs.Prelude.{◌≡◌, ℕ, zero, suc, ◌^◌, ◌<◌, ◌≤◌, Bool, false, IsTrue, List, [], ◌∷◌, length, get_or, All, Contains}
use Rattle.kb_fsa.specs.declared.alphabet.Alphabet.{Alphabet}
use Rattle.kb_fsa.specs.Table.{Moves}
use Rattle.kb_fsa.specs.Language.{generators, symbols, IsTextOf}

-- States are numbered from 1. The lists say of state 1, of state 2, and so on, what its moves are and whether it
-- accepts; several moves may have one symbol, and there may be several initial states.
pub record Nondeterministic : Type 0 where
  pub alphabet : Alphabet
  pub initial : List ℕ
  pub rows : List Moves
  pub accepting : List Bool

abbrev pub automaton_of : Alphabet → List ℕ → List Moves → List Bool → Nondeterministic
automaton_of alphabet initial rows accepting =
    record { alphabet = alphabet; initial = initial; rows = rows; accepting = accepting }

-- the moves of a state, by those of states 1, 2, and so on; what is no state has none
abbrev pub moves_at : List Moves → ℕ → Moves
moves_at rows zero = []
moves_at rows (suc place) = get_or rows place []

abbrev pub moves_from : Nondeterministic → ℕ → Moves
moves_from automaton = moves_at automaton.rows

-- whether a state accepts; what is no state doesn't
abbrev pub accepts_at : Nondeterministic → ℕ → Bool
accepts_at automaton zero = false
accepts_at automaton (suc place) = get_or automaton.accepting place false

-- the text leads from the state to the other one
abbrev pub LeadsFrom : Nondeterministic → ℕ → List ℕ → ℕ → Type 0
LeadsFrom automaton state [] other = state ≡ other
LeadsFrom automaton state (symbol ∷ text) other =
    (next : ℕ) × Contains (moves_from automaton state) (symbol, next)
    × LeadsFrom automaton next text other

-- the state is among those to which the text leads
pub record LeadsSomehow (automaton : Nondeterministic) (text : List ℕ) (state : ℕ) : Type 0 where
  pub start : ℕ
  pub is_initial : Contains automaton.initial start
  pub leads : LeadsFrom automaton start text state

-- the text leads to acceptance in some way
abbrev pub AcceptsSomehow : Nondeterministic → List ℕ → Type 0
AcceptsSomehow automaton text =
    (state : ℕ) × LeadsSomehow automaton text state × IsTrue (accepts_at automaton state)

-- the number is that of a state of so many
abbrev pub IsOneOf : ℕ → ℕ → Type 0
IsOneOf count state = (0 < state) × (state ≤ count)

-- what every nondeterministic automaton keeps
pub record IsNondeterministic (automaton : Nondeterministic) : Type 0 where
  pub generators : generators automaton.alphabet ≤ 65534
  pub one_answer_each : length automaton.accepting ≡ length automaton.rows
  pub size : length automaton.rows < 2 ^ 32
  pub initial : All (IsOneOf (length automaton.rows)) automaton.initial
  pub moves : All
      (All (λ move.
      IsOneOf (symbols automaton.alphabet) move.0 × IsOneOf (length automaton.rows) move.1))
      automaton.rows
  pub texts : (text : List ℕ) (state : ℕ) → LeadsSomehow automaton text state
      → IsTextOf automaton.alphabet text
