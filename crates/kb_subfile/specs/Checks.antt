-- The checks of a file of a subgroup's generators, in the order in which it is refused.
use Rattle.std.specs.Prelude.{◌≡◌, ℕ, ◌<◌, ◌⊎◌}

-- What is looked at: the names of fields; whether the field of the generators is there, whether it is a list of
-- words, and whether those are few enough; and whether each word can be read.
pub data Step : Type 0 where
  field_names : Step
  is_there : Step
  are_words : Step
  few_words : Step
  read_words : Step

-- the order of the steps
abbrev pub rank : Step → ℕ
rank field_names = 0
rank is_there = 1
rank are_words = 2
rank few_words = 3
rank read_words = 4

-- A step at one place: that of a name in the text, or of a word. The other steps look at the same at each place.
pub record Check : Type 0 where
  pub step : Step
  pub place : ℕ

-- a check comes before those of later steps, and before those of its own step at later places
abbrev pub Before : Check → Check → Type 0
Before one other =
    (rank one.step < rank other.step)
    ⊎ ((one.step ≡ other.step) × (one.place < other.place))
