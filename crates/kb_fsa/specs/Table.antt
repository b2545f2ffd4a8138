-- Tables of deterministic automata, and the states to which texts lead.
use Rattle.std.specs.Prelude.{◌≡◌, ◌↔◌, ℕ, zero, suc, ◌^◌, ◌<◌, ◌≤◌, nat_eq, Bool, false, IsTrue, List, [], ◌∷◌, length, get_or, All, AllPairs, Option, Some, None, unwrap_or, if◌then◌else◌}

-- what is beside a number in a list of numbered things: the first that is
abbrev pub lookup : {X : Type 0} → List (ℕ × X) → ℕ → Option X
lookup [] x = None
lookup (entry ∷ rest) x = if nat_eq entry.0 x then Some entry.1 else lookup rest x

-- the moves of one state, each a symbol with its target
abbrev pub Moves : Type 0
Moves = List (ℕ × ℕ)

-- to which state the moves lead by the symbol, and 0 where they have no move by it
abbrev pub target : Moves → ℕ → ℕ
target moves symbol = unwrap_or (lookup moves symbol) 0

-- in a list of numbered things the numbers ascend
abbrev pub Ascends : {X : Type 0} → List (ℕ × X) → Type 0
Ascends entries = AllPairs (λ earlier later. earlier.0 < later.0) entries

-- symbols ascend and are numbered from 1, and no target is 0
pub record IsRow (moves : Moves) : Type 0 where
  pub ascends : Ascends moves
  pub numbers : All (λ move. (0 < move.0) × (0 < move.1)) moves

-- A row, none of whose symbols is below this one, splits into where it leads by the symbol, or 0, and its moves by
-- greater symbols.
pub data IsSplit (row : Moves) (symbol : ℕ) : ℕ → Moves → Type 0 where
  without : All (λ move. symbol < move.0) row → IsSplit row symbol 0 row
  with_move : {state : ℕ} {rest : Moves} → row ≡ (symbol, state) ∷ rest
      → IsSplit row symbol state rest

-- States are numbered from 1, and 0 stands for no state. The lists say of state 1, of state 2, and so on, what its
-- moves are and whether it accepts.
pub record Table : Type 0 where
  pub initial : ℕ
  pub rows : List Moves
  pub accepting : List Bool

-- what every table keeps
pub record IsTable (table : Table) : Type 0 where
  pub one_answer_each : length table.accepting ≡ length table.rows
  pub size : length table.rows < 2 ^ 32
  pub initial : table.initial ≤ length table.rows
  pub rows : All IsRow table.rows
  pub targets : All (All (λ move. move.1 ≤ length table.rows)) table.rows

-- the symbols of all moves are at most k
abbrev pub HasSymbols : ℕ → Table → Type 0
HasSymbols k table = All (All (λ move. move.0 ≤ k)) table.rows

-- the moves of a state; what is no state has none
abbrev pub moves_of : Table → ℕ → Moves
moves_of table zero = []
moves_of table (suc place) = get_or table.rows place []

-- whether a state accepts; what is no state doesn't
abbrev pub is_accepting : Table → ℕ → Bool
is_accepting table zero = false
is_accepting table (suc place) = get_or table.accepting place false

-- the state to which a state's move by the symbol leads, or 0
abbrev pub step : Table → ℕ → ℕ → ℕ
step table state symbol = target (moves_of table state) symbol

-- the state to which the text leads from a state, or 0
abbrev pub after : Table → ℕ → List ℕ → ℕ
after table state [] = state
after table state (symbol ∷ text) = after table (step table state symbol) text

-- from the state the text leads to acceptance
abbrev pub AcceptsFrom : Table → ℕ → List ℕ → Type 0
AcceptsFrom table state text = IsTrue (is_accepting table (after table state text))

-- the state to which the text leads from the initial one, or 0
abbrev pub state_after : Table → List ℕ → ℕ
state_after table text = after table table.initial text

-- from the state some text leads to acceptance
abbrev pub IsLive : Table → ℕ → Type 0
IsLive table state = (text : List ℕ) × AcceptsFrom table state text

-- The states have one right language: the same texts lead from both to acceptance.
-- Hopcroft, Ullman, Introduction to Automata Theory, Languages, and Computation, 3.4.
abbrev pub AreEquivalent : Table → ℕ → ℕ → Type 0
AreEquivalent table p q = (text : List ℕ) → AcceptsFrom table p text ↔ AcceptsFrom table q text
