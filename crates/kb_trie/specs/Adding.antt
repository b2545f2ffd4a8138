-- What a call adds to a list of numbers.
use Rattle.std.specs.Prelude.{◌≡◌, ℕ, ◌<◌, List, ◌++◌}
use Rattle.std.specs.List.{AllPairs, Contains}

-- the list gained exactly such numbers, at its end
pub record Adds (Such : ℕ → Type 0) (before after : List ℕ) : Type 0 where
  pub more : List ℕ
  pub whole : after ≡ before ++ more
  pub each : (number : ℕ) → Contains more number → Such number
  pub all : (number : ℕ) → Such number → Contains more number

-- the same, and the numbers that it gained ascend
pub record AddsAscending (Such : ℕ → Type 0) (before after : List ℕ) : Type 0 where
  pub adds : Adds Such before after
  pub ascend : AllPairs (λ one later. one < later) adds.more

-- such a number, and this one
pub record IsThis (this : ℕ) (Such : ℕ → Type 0) (number : ℕ) : Type 0 where
  pub is : number ≡ this
  pub such : Such number
