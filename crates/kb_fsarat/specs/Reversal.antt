-- The automaton that reads words backwards: each move turned round, from the accepting states to the initial one.
use Rattle.std.specs.Prelude.{◌≡◌, ◌≢◌, ◌↔◌, ◌⊎◌, ℕ, zero, suc, ◌<◌, Bool, true, false, IsTrue, List, [], length, get_or, set, replicate, Contains}
use Rattle.kb_fsa.specs.Table.{Moves, moves_of, is_accepting}
use Rattle.kb_fsa.specs.Language.{Automaton}
use Rattle.kb_fsadet.specs.Nondeterministic.{Nondeterministic, accepts_at}

-- the rows have the moves that they had before, and those that are added to the row of a place
pub record HaveAdded (before after : List Moves) (Added : ℕ → ℕ × ℕ → Type 0) : Type 0 where
  pub one_row_each : length after ≡ length before
  pub moves : (place : ℕ) (move : ℕ × ℕ) → Contains (get_or after place []) move
      ↔ (Contains (get_or before place []) move ⊎ Added place move)

-- the move leads back to the state by one of its moves to the state of the place
abbrev pub TurnsOne : ℕ → Moves → ℕ → ℕ × ℕ → Type 0
TurnsOne state moves place move = (move.1 ≡ state) × Contains moves (move.0, suc place)

-- the move leads back to one of the first so many states
pub record TurnsFirst (rows : List Moves) (count place : ℕ) (move : ℕ × ℕ) : Type 0 where
  pub source : ℕ
  pub is_first : source < count
  pub turned : TurnsOne (suc source) (get_or rows source []) place move

-- the state is one of the first so many, and accepts
pub record IsListed (accepting : List Bool) (count state : ℕ) : Type 0 where
  pub place : ℕ
  pub is_first : place < count
  pub accepts : IsTrue (get_or accepting place false)
  pub numbered : state ≡ suc place

-- the answers of so many states, of which this one alone accepts
abbrev pub only : ℕ → ℕ → List Bool
only zero count = replicate count false
only (suc place) count = set (replicate count false) place true

-- the automaton has each move turned round, starts at the accepting states and accepts at the initial one
pub record IsTurned (automaton : Automaton) (turned : Nondeterministic) : Type 0 where
  pub alphabet : turned.alphabet ≡ automaton.alphabet
  pub one_row_each : length turned.rows ≡ length automaton.table.rows
  pub one_answer_each : length turned.accepting ≡ length automaton.table.rows
  pub moves : (place symbol source : ℕ) → Contains (get_or turned.rows place []) (symbol, source)
      ↔ Contains (moves_of automaton.table source) (symbol, suc place)
  pub initial : (state : ℕ)
      → Contains turned.initial state ↔ IsTrue (is_accepting automaton.table state)
  pub accepting : (state : ℕ)
      → IsTrue (accepts_at turned state) ↔ ((state ≡ automaton.table.initial) × (state ≢ 0))
