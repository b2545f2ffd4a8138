-- What the command line gives `wordreduce`.
use Rattle.std.specs.Prelude.{Bool, ℕ, List}

pub record Given : Type 0 where
  pub file : List ℕ
  pub workers : ℕ
  pub batch : ℕ
  pub by_log : Bool
