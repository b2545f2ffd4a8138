-- The limits of a completion.
use Rattle.std.specs.Prelude.{ℕ, ◌≤◌}

-- each limit is in its range
pub record AreInRange (most_lines most_letters most_differences most_states : ℕ) : Type 0 where
  pub lines : (1 ≤ most_lines) × (most_lines ≤ 1000000)
  pub letters : (1 ≤ most_letters) × (most_letters ≤ 65535)
  pub differences : (1 ≤ most_differences) × (most_differences ≤ 65535)
  pub states : (1 ≤ most_states) × (most_states ≤ 4000000)
