-- The states from which texts of one length lead to acceptance.
use Rattle.std.specs.Prelude.{◌≡◌, ◌↔◌, ℕ, suc, ◌+◌, ◌-◌, ◌*◌, ◌<◌, ◌≤◌, ◌^◌, IsTrue, Option, Some, None, IfSome, List, [], length, get_or, map, Contains}
use Rattle.std.specs.List.{flat_map}
use Rattle.kb_fsa.specs.Table.{Moves, Table, IsTable, HasSymbols, AcceptsFrom, moves_of, step}
use Rattle.kb_fsadet.specs.Nondeterministic.{moves_at}
use Rattle.kb_fsadet.specs.SubsetConstruction.{is_member}

-- from the state some text of the length leads to acceptance
pub record HasText (table : Table) (k state : ℕ) : Type 0 where
  pub text : List ℕ
  pub long : length text ≡ k
  pub accepts : AcceptsFrom table state text

-- the set has exactly the states from which some text of length k leads to acceptance
abbrev pub IsLayer : Table → ℕ → List ℕ → Type 0
IsLayer table k members = (state : ℕ) → IsTrue (is_member members state) ↔ HasText table k state

-- set k is that of length k
abbrev pub AreLayers : Table → List (List ℕ) → Type 0
AreLayers table sets = (k : ℕ) (d : List ℕ) → k < length sets → IsLayer table k (get_or sets k d)

-- the set that comes after the last one is the one at this place
pub record RepeatsFrom (table : Table) (sets : List (List ℕ)) (start : ℕ) : Type 0 where
  pub within : start < length sets
  pub again : (d : List ℕ) → IsLayer table (length sets) (get_or sets start d)

-- the length is whole rounds past the place; a round goes over the places from the start on, so that no place before it
-- comes round
pub record ComesRound (start count k place : ℕ) : Type 0 where
  pub within : place < count
  pub rounds : ℕ
  pub after : k ≡ place + rounds * (count - start)
  pub repeated : 0 < rounds → start ≤ place

-- the rows have the table's moves, each turned round
abbrev pub AreTurned : Table → List Moves → Type 0
AreTurned table rows =
    (place symbol source : ℕ) → Contains (get_or rows place []) (symbol, source)
    ↔ Contains (moves_of table source) (symbol, suc place)

-- where the moves of these states lead
abbrev pub targets_of_each : List Moves → List ℕ → List ℕ
targets_of_each rows states = flat_map (λ state. map (λ move. move.1) (moves_at rows state)) states

-- for how many lengths there is a set: for all that there can be, once the sets repeat
abbrev pub lengths : Option ℕ → List (List ℕ) → ℕ
lengths (Some start) sets = 2 ^ 64
lengths None sets = length sets

-- the sets of a table for all lengths below a count
pub record Layering : Type 0 where
  pub table : Table
  pub count : ℕ

-- what the sets keep
pub record IsLayering (table : Table) (sets : List (List ℕ))
    (repeats_from : Option ℕ) : Type 0 where
  pub is_table : IsTable table
  pub symbols : HasSymbols 65534 table
  pub layers : AreLayers table sets
  pub repeats : IfSome repeats_from (RepeatsFrom table sets)

-- the move is the state's first by a symbol above the floor to a state from which a text of length
-- k leads to acceptance
pub record IsFirstMove (table : Table) (k state floor : ℕ) (move : ℕ × ℕ) : Type 0 where
  pub above : floor < move.0
  pub fits : move.0 < 65535
  pub leads : step table state move.0 ≡ move.1
  pub live : HasText table k move.1
  pub first : (other : ℕ) → floor < other → HasText table k (step table state other)
      → move.0 ≤ other

-- no move of the state is such a one
abbrev pub NoMove : Table → ℕ → ℕ → ℕ → Type 0
NoMove table k state floor =
    (symbol : ℕ) → floor < symbol → ¬ HasText table k (step table state symbol)
