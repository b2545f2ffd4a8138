-- Lists that are gathered piece by piece: the moves of a machine's state, and states of several automata.
use Rattle.std.specs.Prelude.{◌≡◌, ℕ, ◌<◌, List, [], All, map, take, zip}
use Rattle.kb_fsa.specs.Table.{Ascends, lookup, step}
use Rattle.kb_fsa.specs.Language.{Automaton, IsAutomaton}
use Rattle.kb_explore.specs.Machine.{Machine}
use Rattle.kb_minkb.specs.Rules.{states_after}

-- the moves are those by the symbols below this one
pub record AreMovesBefore {S : Type 0} (machine : Machine S) (state : S) (symbol : ℕ)
    (moves : List (ℕ × S)) : Type 0 where
  pub ascends : Ascends moves
  pub symbols : All (λ move. (0 < move.0) × (move.0 < symbol)) moves
  pub follow : (other : ℕ) → other < symbol → lookup moves other ≡ machine.follow state other

-- the states are the initial ones of the first few automata, and these are automata
pub record AreInitialStates (multipliers : List Automaton) (many : ℕ) (states : List ℕ) : Type 0 where
  pub initial : states ≡ states_after (take many multipliers) []
  pub automata : All IsAutomaton (take many multipliers)

-- the states of the first few automata after a symbol more
abbrev pub first_states : List Automaton → List ℕ → ℕ → ℕ → List ℕ
first_states multipliers states symbol many =
    map (λ pair. step pair.0.table pair.1 symbol) (take many (zip multipliers states))
