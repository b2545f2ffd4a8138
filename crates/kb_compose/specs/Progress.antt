-- Loops on their way.
use Rattle.std.specs.Prelude.{◌≡◌, ℕ, suc, ◌<◌, ◌≤◌, Bool, List, length, get_or, All, Contains, Option}
use Rattle.kb_fsa.specs.Table.{Table, Ascends, lookup, step}
use Rattle.kb_fsa.specs.Graphs.{IsMarked}
use Rattle.kb_explore.specs.Progress.{AreDistinct}
use Rattle.kb_compose.specs.declared.place.Place.{Place}

-- the sets are those of the places, each once
pub record AreSetsOf (places : List Place) (sets : List (List ℕ)) : Type 0 where
  pub distinct : AreDistinct sets
  pub all : All (λ place. Contains sets place.pairs) places
  pub sound : All (λ set. (place : Place) × (Contains places place × (place.pairs ≡ set))) sets

-- so few sets have those of all places among them
pub record HaveFewSets (places : List Place) (limit : ℕ) : Type 0 where
  pub sets : List (List ℕ)
  pub all : All (λ place. Contains sets place.pairs) places
  pub few : length sets ≤ limit

-- there are more different sets of places than the limit
pub record HaveMoreSets (places : List Place) (limit : ℕ) : Type 0 where
  pub sets : List (List ℕ)
  pub distinct : AreDistinct sets
  pub sound : All (λ set. (place : Place) × (Contains places place × (place.pairs ≡ set))) sets
  pub more : limit < length sets

-- the moves by the numbers below the bound, where each leads
pub record AreMovesBelow {S : Type 0} (follow : ℕ → Option S) (bound : ℕ)
    (moves : List (ℕ × S)) : Type 0 where
  pub ascends : Ascends moves
  pub numbers : All (λ move. (0 < move.0) × (move.0 < bound)) moves
  pub leads : (number : ℕ) → number < bound → lookup moves number ≡ follow number

-- the first pairs are among the ending ones where the state of their number is marked
pub record AreEndingBelow (table : Table) (marks : List Bool) (pairs : List ℕ) (bound : ℕ)
    (ending : List ℕ) : Type 0 where
  pub sound : (pair : ℕ) → Contains ending pair
      → (place : ℕ) × ((place < bound) × ((get_or pairs place 0 ≡ pair)
      × IsMarked marks (step table table.initial (suc place))))
  pub complete : (place : ℕ) → place < bound → IsMarked marks (step table table.initial (suc place))
      → Contains ending (get_or pairs place 0)
