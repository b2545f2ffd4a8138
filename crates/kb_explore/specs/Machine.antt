-- Machines: deterministic automata whose states are things of any kind.
use Rattle.std.specs.Prelude.{◌≡◌, ℕ, ◌<◌, ◌≤◌, Bool, true, IsSome, List, [], ◌∷◌, All, Option, Some, None}
use Rattle.kb_fsa.specs.Table.{lookup, Ascends}
use Rattle.kb_fsa.specs.Counted.{MoreThan}

-- where a machine starts, where a symbol leads from a state, and which states accept; `None` stands for no state
pub record Machine (S : Type 0) : Type 0 where
  pub start : Option S
  pub follow : S → ℕ → Option S
  pub accepts : S → Bool

-- the machines start alike and move alike: they differ at most in which states accept
pub record AreAlike {S : Type 0} (machine other : Machine S) : Type 0 where
  pub start : machine.start ≡ other.start
  pub follow : (state : S) (symbol : ℕ) → machine.follow state symbol ≡ other.follow state symbol

-- to which state the text leads from what is given
abbrev pub lead : {S : Type 0} → Machine S → Option S → List ℕ → Option S
lead machine None text = None
lead machine (Some state) [] = Some state
lead machine (Some state) (symbol ∷ text) = lead machine (machine.follow state symbol) text

-- to which state the text leads from the start
abbrev pub leads : {S : Type 0} → Machine S → List ℕ → Option S
leads machine text = lead machine machine.start text

-- the text leads to a state that accepts
pub record MachineAccepts {S : Type 0} (machine : Machine S) (text : List ℕ) : Type 0 where
  pub state : S
  pub leads_there : leads machine text ≡ Some state
  pub accepts : machine.accepts state ≡ true

-- the moves are those of the state: symbols of 1 to k, ascending, each with where it leads; all others lead nowhere
pub record AreMovesOf {S : Type 0} (machine : Machine S) (k : ℕ) (state : S)
    (moves : List (ℕ × S)) : Type 0 where
  pub ascends : Ascends moves
  pub symbols : All (λ move. (0 < move.0) × (move.0 ≤ k)) moves
  pub follow : (symbol : ℕ) → lookup moves symbol ≡ machine.follow state symbol

-- more than m texts lead to different states
abbrev pub HasMoreStates : {S : Type 0} → Machine S → ℕ → Type 0
HasMoreStates machine =
    MoreThan (λ text. IsSome (leads machine text))
    (λ text other. leads machine text ≡ leads machine other)
