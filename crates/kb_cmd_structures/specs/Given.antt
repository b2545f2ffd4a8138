-- What the command line gives each command.
use Rattle.std.specs.Prelude.{ℕ, Bool, List}
use Rattle.kb_system.specs.Evidence.{Limits}
pub use Rattle.kb_system.specs.Problems.{limits_of}

pub record AutgroupGiven : Type 0 where
  pub file : List ℕ
  pub workers : ℕ
  pub limits : Limits
  -- how many word differences may be kept
  pub most : ℕ
  pub batch : ℕ

-- a check of automata, by `gpaxioms` and by `gpminkb`
pub record CheckGiven : Type 0 where
  pub file : List ℕ
  pub workers : ℕ
  pub limits : Limits

pub record GpaxiomsGiven : Type 0 where
  pub check : CheckGiven
  -- whether the lines of the log decide, and no completion
  pub by_log : Bool
