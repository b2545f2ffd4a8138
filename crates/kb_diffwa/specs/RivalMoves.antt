-- How rivals go on as letters are read, by the steps between the numbers of differences.
use Rattle.std.specs.Prelude.{◌≡◌, ℕ, ◌+◌, ◌<◌, ◌≤◌, Bool, ◌&&◌, nat_eq, Some}
use Rattle.kb_diffwa.specs.Comparing.{Equal, compared, compares_less}
use Rattle.kb_diffwa.specs.Rivals.{Rival}

-- the empty word beside the empty suffix, if the empty difference has number 1
abbrev pub first_rival : Rival
first_rival = record { difference = 1; comparison = Equal }

-- whether the rival shows that there is a lesser word of the same element
abbrev pub shows_less : Rival → Bool
shows_less rival = nat_eq rival.difference 1 && compares_less rival.comparison

-- the steps lead to none but the numbers 1 to so many, and to 0
abbrev pub StepsWithin : ℕ → (ℕ → ℕ → ℕ → ℕ) → Type 0
StepsWithin differences step = (d a b : ℕ) → step d a b ≤ differences

-- the letter a leads from the rival to another one: its word goes on with a letter, or with the padding
pub record GoesOn (n : ℕ) (step : ℕ → ℕ → ℕ → ℕ) (rival : Rival) (a : ℕ)
    (later : Rival) : Type 0 where
  pub b : ℕ
  pub positive : 0 < b
  pub letter : b ≤ n + 1
  pub difference : step rival.difference a b ≡ later.difference
  pub kept : 0 < later.difference
  pub comparison : compared n rival.comparison a b ≡ Some later.comparison
