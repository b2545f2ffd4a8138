-- How far a count over the states of an automaton has come.
use Rattle.std.specs.Prelude.{◌≡◌, ℕ, ◌+◌, ◌<◌, ◌≤◌, Bool, false, List, [], ◌∷◌, length, get_or, Contains}
use Rattle.kb_fsa.specs.Graphs.{IsMarked}
use Rattle.kb_fsa.specs.Table.{Table, Moves, AcceptsFrom, moves_of}
use Rattle.kb_count.specs.Counts.{AreSoMany, IsAcceptedOfLength}

-- the numbers of the states to which moves lead, together
abbrev pub sum_along : List ℕ → Moves → ℕ
sum_along numbers [] = 0
sum_along numbers (move ∷ row) = get_or numbers move.1 0 + sum_along numbers row

-- a number for each state, and one for none: how many texts of the length lead from there to acceptance
pub record AreNumbersOfLength (table : Table) (long : ℕ) (numbers : List ℕ) : Type 0 where
  pub one_each : length numbers ≡ length table.rows + 1
  pub right : (state : ℕ) → state ≤ length table.rows
      → AreSoMany (IsAcceptedOfLength table long state) (get_or numbers state 0)

-- the numbers of the settled states say how many texts lead from there to acceptance
pub record AreTotals (table : Table) (settled : List Bool) (numbers : List ℕ) : Type 0 where
  pub mark_each : length settled ≡ length table.rows + 1
  pub one_each : length numbers ≡ length table.rows + 1
  pub right : (state : ℕ) → IsMarked settled state
      → AreSoMany (AcceptsFrom table state) (get_or numbers state 0)

-- one of the moves leads to a state that isn't settled
pub record LeadsToUnsettled (settled : List Bool) (row : Moves) : Type 0 where
  pub symbol : ℕ
  pub state : ℕ
  pub move : Contains row (symbol, state)
  pub unsettled : get_or settled state false ≡ false

-- each state above the bound that isn't settled has a move to another such state
abbrev pub AreStuckAbove : ℕ → Table → List Bool → Type 0
AreStuckAbove bound table settled =
    (state : ℕ) → bound < state → state ≤ length table.rows → get_or settled state false ≡ false
    → LeadsToUnsettled settled (moves_of table state)
