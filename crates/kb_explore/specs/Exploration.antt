-- What the exploration of a machine gives: the states that texts lead to, numbered in the order in which they are
-- first seen, breadth first.
use Rattle.std.specs.Prelude.{◌≡◌, ℕ, zero, suc, ◌<◌, false, List, [], ◌∷◌, ◌++◌, length, get_or, Option, Some, None, slice_get}
use Rattle.kb_word.specs.Words.{Less}
use Rattle.kb_fsa.specs.Table.{Table, IsTable, state_after}
use Rattle.kb_fsa.specs.Canonical.{IsLeastText}
use Rattle.kb_explore.specs.Machine.{Machine, leads}

-- the state of a number, the first being numbered 1, and none for 0
abbrev pub numbered : {S : Type 0} → List S → ℕ → Option S
numbered states zero = None
numbered states (suc place) = slice_get states place

-- By the origins of states 1, 2, and so on, each the state and the symbol by which it was first seen, the text leads
-- to the state. The initial state has the origin (0, 0).
pub data IsTraced (origins : List (ℕ × ℕ)) : ℕ → List ℕ → Type 0 where
  at_start : {state : ℕ} → numbered origins state ≡ Some (0, 0) → IsTraced origins state []
  along : {state parent symbol : ℕ} {text : List ℕ}
      → numbered origins state ≡ Some (suc parent, symbol)
      → IsTraced origins (suc parent) text → IsTraced origins state (text ++ symbol ∷ [])

-- each state but the initial one was first seen from an earlier one
abbrev pub AreFromEarlier : List (ℕ × ℕ) → Type 0
AreFromEarlier origins =
    (state parent symbol : ℕ) → numbered origins state ≡ Some (suc parent, symbol)
    → suc parent < state

-- The table has the states that texts lead to in the machine, each once. Each is numbered by its least text, and
-- traced back by its origin.
pub record IsExploration {S : Type 0} (machine : Machine S) (table : Table) (states : List S)
    (origins : List (ℕ × ℕ)) : Type 0 where
  pub is_table : IsTable table
  pub one_state_each : length states ≡ length table.rows
  pub leads_there : (text : List ℕ) → numbered states (state_after table text) ≡ leads machine text
  pub accepts : (place : ℕ) (state : S) → slice_get states place ≡ Some state
      → get_or table.accepting place false ≡ machine.accepts state
  pub distinct : (place other : ℕ) (state : S) → slice_get states place ≡ Some state
      → slice_get states other ≡ Some state → place ≡ other
  pub words : List (List ℕ)
  pub one_word_each : length words ≡ length table.rows
  pub least : (state : ℕ) (word : List ℕ) → numbered words state ≡ Some word
      → IsLeastText table state word
  pub traced : (state : ℕ) (word : List ℕ) → numbered words state ≡ Some word
      → IsTraced origins state word
  pub from_earlier : AreFromEarlier origins
  pub ascending : (p q : ℕ) (word other : List ℕ) → p < q → numbered words p ≡ Some word
      → numbered words q ≡ Some other → Less word other
