-- Marks of states 1, 2, and so on.
use Rattle.std.specs.Prelude.{◌≡◌, ◌⊎◌, ℕ, zero, suc, ◌+◌, Bool, false, IsTrue, not, List, length, get_or, count_by, Contains}

-- whether the state has a mark; what is no state has none
abbrev pub is_marked : List Bool → ℕ → Bool
is_marked marks zero = false
is_marked marks (suc place) = get_or marks place false

-- These are all of the states that had no mark, each once, and now they have one.
pub record AreUnseen (marks : List Bool) (states fresh : List ℕ) (marks' : List Bool) : Type 0 where
  pub one_each : length marks' ≡ length marks
  pub fewer : length fresh + count_by not marks' ≡ count_by not marks
  pub among : (state : ℕ) → Contains fresh state → Contains states state
  pub each : (state : ℕ) → Contains states state → IsTrue (is_marked marks' state)
  pub marked : (state : ℕ) → IsTrue (is_marked marks' state)
      → IsTrue (is_marked marks state) ⊎ Contains fresh state
