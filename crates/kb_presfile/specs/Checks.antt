-- The checks of a presentation file, in the order in which it is refused.
use Rattle.std.specs.Prelude.{◌≡◌, ℕ, ◌<◌, ◌⊎◌}
use Rattle.kb_presfile.specs.declared.error.Field.{Field}
use Rattle.kb_presfile.specs.declared.error.Field.TheVariants as kinds

-- What is looked at: the names of fields; whether a field is there, and whether its value is of its kind; whether
-- the ordering is known; whether there are few enough names of generators, and each is free; whether the weights are
-- right; whether the names at the places for inverses are known, and each generator's inverse has it as its inverse;
-- whether there are few enough equations, and each can be read.
pub data Step : Type 0 where
  field_names : Step
  is_there : Field → Step
  is_of_kind : Field → Step
  known_ordering : Step
  few_names : Step
  free_names : Step
  right_weights : Step
  known_inverses : Step
  mutual_inverses : Step
  few_equations : Step
  read_equations : Step

-- the order of the steps
abbrev pub rank : Step → ℕ
rank field_names = 0
rank (is_there kinds.IsRws) = 1
rank (is_of_kind kinds.IsRws) = 2
rank (is_there kinds.Ordering) = 3
rank (is_of_kind kinds.Ordering) = 4
rank known_ordering = 5
rank (is_there kinds.GeneratorOrder) = 6
rank (is_of_kind kinds.GeneratorOrder) = 7
rank few_names = 8
rank free_names = 9
rank (is_there kinds.Weight) = 10
rank (is_of_kind kinds.Weight) = 11
rank right_weights = 12
rank (is_there kinds.Inverses) = 13
rank (is_of_kind kinds.Inverses) = 14
rank known_inverses = 15
rank mutual_inverses = 16
rank (is_there kinds.Equations) = 17
rank (is_of_kind kinds.Equations) = 18
rank few_equations = 19
rank read_equations = 20

-- A step at one place: that of a name in the text, of a generator, of a place for inverses or of an equation. The other
-- steps look at the same at each place.
pub record Check : Type 0 where
  pub step : Step
  pub place : ℕ

-- a check comes before those of later steps, and before those of its own step at later places
abbrev pub Before : Check → Check → Type 0
Before one other =
    (rank one.step < rank other.step)
    ⊎ ((one.step ≡ other.step) × (one.place < other.place))
