-- An exploration on its way: what is known of the states that are numbered so far.
use Rattle.std.specs.Prelude.{◌≡◌, ◌⊎◌, ℕ, List, slice_get, Some}
use Rattle.std.specs.List.{AllZip}
use Rattle.kb_fsa.specs.Table.{Moves}
use Rattle.kb_explore.specs.Exploration.{numbered}
use Rattle.kb_explore.specs.Progress.{AreDistinct}
use Rattle.kb_branching.specs.Branching.{Branching, IsReached}

-- the states are distinct, and some text leads to each
pub record AreReached {S : Type 0} (machine : Branching S) (states : List S) : Type 0 where
  pub distinct : AreDistinct states
  pub reached : (number : ℕ) (state : S) → numbered states number ≡ Some state
      → IsReached machine state

-- the states have the numbers among those that are seen after, too
abbrev pub KeepNumbers : {S : Type 0} → List S → List S → Type 0
KeepNumbers {S} states states' =
    (number : ℕ) (state : S) → numbered states number ≡ Some state
    → numbered states' number ≡ Some state

-- The state has the number among those that are seen after: those that were seen before, and this
-- one.
pub record HasNumber {S : Type 0} (states : List S) (state : S) (states' : List S)
    (number : ℕ) : Type 0 where
  pub kept : KeepNumbers states states'
  pub is_state : numbered states' number ≡ Some state
  pub others : (place : ℕ) (other : S) → numbered states' place ≡ Some other
      → (numbered states place ≡ Some other) ⊎ (other ≡ state)

-- the numbers are those of the states, place by place
abbrev pub AreNumbers : {S : Type 0} → List S → List ℕ → List S → Type 0
AreNumbers states numbers items =
    AllZip (λ number item. numbered states number ≡ Some item) numbers items

-- the moves lead by the same symbols to the numbers of where the machine's moves lead
abbrev pub AreNumberedMoves : {S : Type 0} → List S → Moves → List (ℕ × S) → Type 0
AreNumberedMoves states row moves =
    AllZip (λ move original.
    (move.0 ≡ original.0) × (numbered states move.1 ≡ Some original.1)) row moves

-- the row has the moves of the state at the place, by numbers
pub record IsRowAt {S : Type 0} (machine : Branching S) (states : List S) (place : ℕ)
    (row : Moves) : Type 0 where
  pub state : S
  pub is_state : slice_get states place ≡ Some state
  pub are_moves : AreNumberedMoves states row (machine.moves state)

-- each row is that of the state at its place
abbrev pub AreRows : {S : Type 0} → Branching S → List S → List Moves → Type 0
AreRows machine states rows =
    (place : ℕ) (row : Moves) → slice_get rows place ≡ Some row
    → IsRowAt machine states place row
