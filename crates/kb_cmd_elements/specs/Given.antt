-- What the command line gives the commands.
use Rattle.std.specs.Prelude.{ℕ, List}
use Rattle.kb_system.specs.Evidence.{Limits}
pub use Rattle.kb_system.specs.Problems.{limits_of}

pub record BallGiven : Type 0 where
  pub file : List ℕ
  pub radius : ℕ
  pub workers : ℕ
  pub limits : Limits

-- of a completion that makes no word acceptor: how many lines its log, and how many letters a left side, has at most
pub record KbcosGiven : Type 0 where
  pub file : List ℕ
  pub workers : ℕ
  pub lines : ℕ
  pub letters : ℕ
