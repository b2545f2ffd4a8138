-- Moves as marks: for each symbol a row of marks, one for each state.
use Rattle.std.specs.Prelude.{◌≡◌, ◌↔◌, ℕ, suc, ◌<◌, Bool, true, false, List, [], ◌∷◌, length, get_or, Contains, if◌then◌else◌}
use Rattle.kb_fsa.specs.Table.{Moves}
use Rattle.kb_fsadet.specs.SubsetConstruction.{targets_by}

-- the marks say of state 1, of state 2, and so on, whether it is among these
pub record AreMarks (states : List ℕ) (count : ℕ) (marks : List Bool) : Type 0 where
  pub one_each : length marks ≡ count
  pub marked : (place : ℕ) → get_or marks place false ≡ true ↔ Contains states (suc place)

-- each row, of as many as there are symbols, has the marks of where the moves by its symbol lead
pub record AreMarkedRows (moves : Moves) (symbols states : ℕ) (rows : List (List Bool)) : Type 0 where
  pub one_each : length rows ≡ symbols
  pub marks : (place : ℕ) → place < symbols
      → AreMarks (targets_by moves (suc place)) states (get_or rows place [])

-- the numbers of what is marked, where the first mark is that of the number
abbrev pub numbers_from : ℕ → List Bool → List ℕ
numbers_from number [] = []
numbers_from number (mark ∷ marks) =
    if mark then number ∷ numbers_from (suc number) marks else numbers_from (suc number) marks

-- the groups with one more at the front, of the symbol with the states, where there are some
abbrev pub with_group : ℕ → List ℕ → List (ℕ × List ℕ) → List (ℕ × List ℕ)
with_group symbol [] groups = groups
with_group symbol (state ∷ states) groups = (symbol, state ∷ states) ∷ groups

-- the groups of what is marked in each row, where the first row is that of the symbol
abbrev pub groups_from : ℕ → List (List Bool) → List (ℕ × List ℕ)
groups_from symbol [] = []
groups_from symbol (row ∷ rows) =
    with_group symbol (numbers_from 1 row) (groups_from (suc symbol) rows)
