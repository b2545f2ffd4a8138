-- The least text that a machine accepts, and the states up to there.
use Rattle.std.specs.Prelude.{◌≡◌, ℕ, IsSome, List}
use Rattle.kb_word.specs.Words.{Less}
use Rattle.kb_fsa.specs.Counted.{MoreThan}
use Rattle.kb_explore.specs.Machine.{Machine, MachineAccepts, leads}

-- the text is accepted, and no lesser one is
pub record IsLeastAccepted {S : Type 0} (machine : Machine S) (text : List ℕ) : Type 0 where
  pub accepted : MachineAccepts machine text
  pub least : (other : List ℕ) → MachineAccepts machine other → ¬ Less other text

-- the text leads to a state, and no text before it is accepted
abbrev pub LeadsBeforeAcceptance : {S : Type 0} → Machine S → List ℕ → Type 0
LeadsBeforeAcceptance machine text =
    IsSome (leads machine text)
    × ((other : List ℕ) → Less other text → ¬ MachineAccepts machine other)

-- more than m texts lead to different states, each of them the first accepted text or before it
abbrev pub HasMoreStatesBefore : {S : Type 0} → Machine S → ℕ → Type 0
HasMoreStatesBefore machine =
    MoreThan (LeadsBeforeAcceptance machine)
    (λ text other. leads machine text ≡ leads machine other)
