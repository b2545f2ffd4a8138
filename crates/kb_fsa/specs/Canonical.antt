-- Canonical automata.
use Rattle.std.specs.Prelude.{◌≡◌, ◌⊎◌, ℕ, ◌<◌, ◌≤◌, List, [], length}
use Rattle.kb_word.specs.Words.{Less}
use Rattle.kb_fsa.specs.Table.{Table, state_after, IsLive, AreEquivalent, moves_of}

-- the text is the least, in the shortlex order, that leads to the state
pub record IsLeastText (table : Table) (state : ℕ) (text : List ℕ) : Type 0 where
  pub leads : state_after table text ≡ state
  pub least : (other : List ℕ) → state_after table other ≡ state → ¬ Less other text

-- the number is that of a state
pub record IsState (table : Table) (state : ℕ) : Type 0 where
  pub positive : 0 < state
  pub within : state ≤ length table.rows

-- states are numbered in the order of their least texts
abbrev pub IsBreadthFirst : Table → Type 0
IsBreadthFirst table = (p q : ℕ) (text other : List ℕ) → 0 < p → p < q
    → IsLeastText table p text → IsLeastText table q other → Less text other

-- each state is reached
abbrev pub AreReached : Table → Type 0
AreReached table =
    (state : ℕ) → IsState table state → (text : List ℕ) × IsLeastText table state text

-- Each state leads to acceptance; but where no text is accepted the initial state stands alone, without a move.
abbrev pub IsTrim : Table → Type 0
IsTrim table = ((state : ℕ) → IsState table state → IsLive table state)
    ⊎ ((length table.rows ≡ 1) × ((moves_of table 1 ≡ []) × ¬ IsLive table 1))

-- The canonical automaton of its language: reached and trim, no two states of one right language, numbered
-- in the shortlex order of the least texts that lead to the states.
-- Hopcroft, Ullman, 3.4, for the minimal automaton; the numbering is that of Epstein et al., 1.2, breadth first.
pub record IsCanonical (table : Table) : Type 0 where
  pub initial : table.initial ≡ 1
  pub reached : AreReached table
  pub trim : IsTrim table
  pub reduced : (p q : ℕ) → IsState table p → IsState table q → AreEquivalent table p q → p ≡ q
  pub numbered : IsBreadthFirst table
