-- What the command line gives the commands.
use Rattle.std.specs.Prelude.{ℕ, List}
use Rattle.kb_system.specs.Evidence.{Limits}
pub use Rattle.kb_system.specs.Problems.{limits_of}

pub record KbverifyGiven : Type 0 where
  pub file : List ℕ

pub record KbcertifyGiven : Type 0 where
  pub file : List ℕ
  pub workers : ℕ
  pub limits : Limits
