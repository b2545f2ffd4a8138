-- Lines that become live.
use Rattle.std.specs.Prelude.{ℕ}
use Rattle.kb_word.specs.Words.{Pair}

-- a line's number and its rule
pub record NumberedRule : Type 0 where
  pub number : ℕ
  pub rule : Pair
