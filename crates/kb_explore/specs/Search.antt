-- A search for the least text that a machine accepts, on its way.
use Rattle.std.specs.Prelude.{◌≡◌, ℕ, false, List, length, slice_get, Some}
use Rattle.kb_fsa.specs.Table.{Moves}
use Rattle.kb_explore.specs.Machine.{Machine}
use Rattle.kb_explore.specs.Exploration.{IsTraced, AreFromEarlier}
use Rattle.kb_explore.specs.FirstAccepted.{IsLeastAccepted, HasMoreStatesBefore}
use Rattle.kb_explore.specs.Progress.{Progress, Partway}
use Rattle.kb_explore.specs.declared.seen.Seen.{Seen}

-- none of the states accepts
abbrev pub NoneAccepts : {S : Type 0} → Machine S → List S → Type 0
NoneAccepts {S} machine states =
    (place : ℕ) (state : S) → slice_get states place ≡ Some state → machine.accepts state ≡ false

-- the moves of so many states are passed, and none of the states that are seen accepts
pub record IsSearched {S : Type 0} (machine : Machine S) (k : ℕ) (states : List S)
    (origins : List (ℕ × ℕ)) (done : ℕ) : Type 0 where
  pub rows : List Moves
  pub count : length rows ≡ done
  pub progress : Progress machine k states origins rows
  pub none : NoneAccepts machine states

-- after those states, the moves of the next one that are passed lead to states that are seen, and none
-- of these accepts
pub record IsSearching {S : Type 0} (machine : Machine S) (k : ℕ) (states : List S)
    (origins : List (ℕ × ℕ)) (done : ℕ) (state : S) (passed : List (ℕ × S)) : Type 0 where
  pub rows : List Moves
  pub count : length rows ≡ done
  pub row : Moves
  pub partway : Partway machine k states origins rows state passed row
  pub none : NoneAccepts machine states

-- the state that was seen last is that of the least accepted text, and no more are up to there
pub record IsFound {S : Type 0} (machine : Machine S) (states : List S)
    (origins : List (ℕ × ℕ)) : Type 0 where
  pub text : List ℕ
  pub least : IsLeastAccepted machine text
  pub traced : IsTraced origins (length states) text
  pub from_earlier : AreFromEarlier origins
  pub few : ¬ HasMoreStatesBefore machine (length states)

-- ---- the same of the states that are seen

abbrev pub IsSearchedTo : {S : Type 0} → Machine S → ℕ → Seen S → ℕ → Type 0
IsSearchedTo machine k seen done =
    IsSearched machine k seen.states.keys seen.origins.items done

abbrev pub IsFoundLast : {S : Type 0} → Machine S → Seen S → Type 0
IsFoundLast machine seen = IsFound machine seen.states.keys seen.origins.items
