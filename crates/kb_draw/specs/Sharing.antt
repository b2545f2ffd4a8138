-- Work that is shared out.
use Rattle.std.specs.Prelude.{ℕ, ◌<◌, List}
use Rattle.std.specs.List.{Contains}

-- one of the shares has done the part
pub record IsDoneIn {Share : Type 0} (done : Share → ℕ → Type 0) (shares : List Share)
    (part : ℕ) : Type 0 where
  pub share : Share
  pub among : Contains shares share
  pub did : done share part

-- each of so many parts is done in one of the shares
abbrev pub IsShared : {Share : Type 0} → ℕ → (Share → ℕ → Type 0) → List Share → Type 0
IsShared parts done shares = (part : ℕ) → part < parts → IsDoneIn done shares part
