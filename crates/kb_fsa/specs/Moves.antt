-- The moves of a table, each backwards.
use Rattle.std.specs.Prelude.{◌≡◌, ℕ, suc, ◌<◌, List, length, get_or}
use Rattle.kb_fsa.specs.Table.{Table, step, moves_of}
use Rattle.kb_fsa.specs.Canonical.{IsState}
use Rattle.kb_fsa.specs.Graphs.{source, end}
use Rattle.kb_fsa.specs.declared.moves.Backward.{Backward}

-- an edge leads backwards along a move by the symbol
pub record IsBackward (table : Table) (edges : List (ℕ × ℕ)) (symbols : List ℕ)
    (place : ℕ) : Type 0 where
  pub from_state : IsState table (source edges place)
  pub to_state : IsState table (end edges place)
  pub step : step table (end edges place) (get_or symbols place 0) ≡ source edges place

-- the state's move at a place of its row is that of an edge
pub record HasEdge (table : Table) (edges : List (ℕ × ℕ)) (symbols : List ℕ)
    (state place : ℕ) : Type 0 where
  pub number : ℕ
  pub within : number < length edges
  pub symbol : get_or symbols number 0 ≡ (get_or (moves_of table state) place (0, 0)).0
  pub from_there : source edges number ≡ (get_or (moves_of table state) place (0, 0)).1
  pub to_state : end edges number ≡ state

-- The edges lead backwards along the moves of the first states, up to one, and the first moves of that one.
pub record AreBackward (table : Table) (state done : ℕ) (edges : List (ℕ × ℕ))
    (symbols : List ℕ) : Type 0 where
  pub one_each : length symbols ≡ length edges
  pub sound : (place : ℕ) → place < length edges → IsBackward table edges symbols place
  pub complete : (earlier place : ℕ) → earlier < state → place < length (moves_of table earlier)
      → HasEdge table edges symbols earlier place
  pub begun : (place : ℕ) → place < done → HasEdge table edges symbols state place

-- all moves of the table, each backwards
abbrev pub IsBackwardOf : Table → Backward → Type 0
IsBackwardOf table moves =
    AreBackward table (suc (length table.rows)) 0 moves.edges.items moves.symbols.items
