-- Calls that are counted, some of which are to fail.
use Rattle.std.specs.Prelude.{◌≡◌, ◌↔◌, ℕ, ◌+◌, ◌-◌, ◌^◌, ◌<◌, min, List, Contains, Bool, IsTrue, if◌then◌else◌}

-- calls made one after another, numbered from 1: the numbers of those that are to fail, how many were
-- made, and how many of those failed
pub record Calls : Type 0 where
  pub failing : List ℕ
  pub made : ℕ
  pub faults : ℕ

-- none was made
abbrev pub no_calls : List ℕ → Calls
no_calls failing = record { failing = failing; made = 0; faults = 0 }

-- one more call was made, which failed exactly where its number is to fail. The count stops at 2 ^ 64 - 1:
-- a call after that has no number, and does not fail.
pub record CountsCall (failed : Bool) (before after : Calls) : Type 0 where
  pub listed : IsTrue failed
      ↔ ((before.made + 1 < 2 ^ 64) × Contains before.failing (before.made + 1))
  pub made : after.made ≡ min (before.made + 1) (2 ^ 64 - 1)
  pub faults : after.faults ≡ before.faults + (if failed then 1 else 0)
  pub failing : after.failing ≡ before.failing
