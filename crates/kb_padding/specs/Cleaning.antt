-- Dropping the misplaced moves of a table of pairs: which states texts lead to, and by which symbols.
use Rattle.std.specs.Prelude.{◌≡◌, ◌≢◌, ◌↔◌, ℕ, suc, ◌+◌, ◌*◌, ◌<◌, nat_eq, Bool, true, false, not, ◌&&◌, ◌||◌, List, [], ◌∷◌, length, map, get_or, Any, Contains}
use Rattle.std.specs.List.{filter}
use Rattle.kb_fsa.specs.PairSymbols.{pads_first, pads_second}
use Rattle.kb_fsa.specs.Table.{Moves, Table, state_after}
use Rattle.kb_fsa.specs.Graphs.{IsMarked, source, end}
use Rattle.kb_padding.specs.Misplaced.{PadsFirst, PadsSecond}
use Rattle.kb_padding.specs.declared.misplaced.Track.{Track}
use Rattle.kb_padding.specs.declared.misplaced.Track.TheVariants.{First, Second}

-- the edges the other way round
abbrev pub turned : List (ℕ × ℕ) → List (ℕ × ℕ)
turned edges = map (λ (edge : ℕ × ℕ). (edge.1, edge.0)) edges

-- the lists have the same edges, each perhaps several times
abbrev pub HaveSameEdges : List (ℕ × ℕ) → List (ℕ × ℕ) → Type 0
HaveSameEdges edges others = (x y : ℕ) → Contains edges (x, y) ↔ Contains others (x, y)

-- The edges are those along the first moves, which are listed backwards. Where a state is kept for
-- a target, an edge leads from it there.
pub record AreForward (backward : List (ℕ × ℕ)) (done count : ℕ) (edges : List (ℕ × ℕ))
    (latest : List ℕ) : Type 0 where
  pub one_each : length latest ≡ count
  pub sound : (x y : ℕ) → Contains edges (x, y)
      → (place : ℕ) × ((place < done) × (get_or backward place (0, 0) ≡ (y, x)))
  pub complete : (place : ℕ) → place < done
      → Contains edges (end backward place, source backward place)
  pub latest_is : (target : ℕ) → get_or latest target 0 ≢ 0
      → Contains edges (get_or latest target 0, target)

-- the symbol has padding on the track
abbrev pub Pads : Track → ℕ → ℕ → Type 0
Pads First n symbol = PadsFirst n symbol
Pads Second n symbol = PadsSecond n symbol

abbrev pub pads : Track → ℕ → ℕ → Bool
pads First n symbol = pads_first n symbol
pads Second n symbol = pads_second n symbol

-- of no state and the states from 1 on, those are marked to which a text leads that meets the condition
pub record AreMet (table : Table) (Meets : List ℕ → Type 0) (marks : List Bool) : Type 0 where
  pub one_each : length marks ≡ length table.rows + 1
  pub sound : (state : ℕ) → IsMarked marks state
      → (text : List ℕ) × ((state_after table text ≡ state) × Meets text)
  pub complete : (text : List ℕ) → state_after table text ≢ 0 → Meets text
      → IsMarked marks (state_after table text)

-- those to which texts lead, texts with padding on the first track, and texts with padding on the second
pub record AreReachMarks (n : ℕ) (table : Table) (marks first second : List Bool) : Type 0 where
  pub by_texts : AreMet table (λ _. Unit {0}) marks
  pub by_first : AreMet table (Any (PadsFirst n)) first
  pub by_second : AreMet table (Any (PadsSecond n)) second

-- the move at a place, which is taken backwards, is one by a symbol with padding on the track from a marked state
pub record IsPaddedMove (track : Track) (n : ℕ) (edges : List (ℕ × ℕ)) (symbols : List ℕ)
    (marks : List Bool) (place : ℕ) : Type 0 where
  pub from_marked : IsMarked marks (end edges place)
  pub is_padded : pads track n (get_or symbols place 0) ≡ true

-- the targets of such moves are marked, as far as the first moves go
pub record ArePaddedTargets (track : Track) (n : ℕ) (edges : List (ℕ × ℕ)) (symbols : List ℕ)
    (marks : List Bool) (done : ℕ) (targets : List Bool) : Type 0 where
  pub one_each : length targets ≡ length marks
  pub sound : (state : ℕ) → IsMarked targets state
      → (place : ℕ)
      × ((place < done)
      × ((source edges place ≡ state) × IsPaddedMove track n edges symbols marks place))
  pub complete : (place : ℕ) → place < done → IsPaddedMove track n edges symbols marks place
      → IsMarked targets (source edges place)

-- behind a text with padding on these tracks a symbol is out of place that has padding on those
abbrev pub is_out_of_place : Bool → Bool → Bool → Bool → Bool
is_out_of_place after_first after_second first second =
    (after_first && not first) || ((after_second && not second) || (first && second))

-- texts lead to the state behind which the symbol is out of place
abbrev pub is_misplaced : ℕ → List Bool → List Bool → List Bool → ℕ → ℕ → Bool
is_misplaced n marks first second state symbol =
    get_or marks state false
    && is_out_of_place (get_or first state false) (get_or second state false) (pads First n symbol)
    (pads Second n symbol)

-- the move at a place, which is taken backwards, is misplaced and leads to acceptance
pub record IsAccepted (n : ℕ) (edges : List (ℕ × ℕ)) (symbols : List ℕ)
    (marks first second live : List Bool) (place : ℕ) : Type 0 where
  pub within : place < length edges
  pub misplaced : is_misplaced n marks first second (end edges place) (get_or symbols place 0)
      ≡ true
  pub live_target : IsMarked live (source edges place)

-- the symbol is two paddings, or the state's move by it is misplaced
abbrev pub is_dropped : ℕ → List Bool → List Bool → List Bool → ℕ → ℕ → Bool
is_dropped n marks first second state symbol =
    is_misplaced n marks first second state symbol || nat_eq symbol ((n + 1) * (n + 1))

-- the rows from that of the given state on, without the moves that are dropped
abbrev pub kept_rows : (ℕ → ℕ → Bool) → ℕ → List Moves → List Moves
kept_rows dropped state [] = []
kept_rows dropped state (row ∷ rows) =
    filter (λ move. not (dropped state move.0)) row ∷ kept_rows dropped (suc state) rows
