-- What balancing does to a book.
use Rattle.std.specs.Prelude.{◌≡◌, ℕ, ◌≤◌, List, ◌++◌, length, map}
use Rattle.kb_machine.specs.States.{State}
use Rattle.kb_machine.specs.Course.{Course}
use Rattle.kb_share.specs.Passes.{origin_of}
use Rattle.kb_share.specs.declared.found.Found.{Found}

-- the state with these overlaps in front of what is pending
abbrev pub state_balanced : State → List Found → State
state_balanced state found = record state { pending = map origin_of found ++ state.pending }

-- at most so many overlaps became pending, in front of the others, and nothing else happened
pub record BalancesAtMost (most : ℕ) (before after : Course) : Type 0 where
  pub found : List Found
  pub few : length found ≤ most
  pub problem : after.problem ≡ before.problem
  pub state : after.state ≡ state_balanced before.state found
