-- What a look is in contracts.
use Rattle.std.specs.Prelude.{ℕ, List}

-- the states that were seen, with the one that is seen now, and how often a look was refused before
pub record Looking (S : Type 0) : Type 0 where
  pub seen : List S
  pub refusals : ℕ
