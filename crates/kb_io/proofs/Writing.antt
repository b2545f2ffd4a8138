-- What a loop of writes has written.
use Rattle.std.proofs.Common.{◌≡◌, ℕ, List, ◌++◌}

-- of the bytes a prefix was appended, and the rest is still to come
pub record WrittenSoFar (before now bytes rest : List ℕ) : Type 0 where
  pub prefix : List ℕ
  pub splits : bytes ≡ prefix ++ rest
  pub appends : now ≡ before ++ prefix
