-- The checks of an automaton file, and the order in which it is refused by them.
use Rattle.std.specs.Prelude.{◌≡◌, ℕ, ◌+◌, ◌*◌, ◌<◌, ◌⊎◌}
use Rattle.kb_fsafile.specs.declared.error.Field.{Field}
use Rattle.kb_fsafile.specs.declared.error.Field.TheVariants as kinds

-- a field where it stands in a file
pub data FieldPlace : Type 0 where
  is_fsa_field : FieldPlace
  alphabet_field : FieldPlace
  alphabet_type_field : FieldPlace
  arity_field : FieldPlace
  base_field : FieldPlace
  base_type_field : FieldPlace
  names_field : FieldPlace
  names_size_field : FieldPlace
  pairs_size_field : FieldPlace
  names_format_field : FieldPlace
  states_field : FieldPlace
  states_type_field : FieldPlace
  states_size_field : FieldPlace
  initial_field : FieldPlace
  accepting_field : FieldPlace
  table_field : FieldPlace
  default_field : FieldPlace
  table_format_field : FieldPlace
  transitions_field : FieldPlace

-- its name
abbrev pub field_of : FieldPlace → Field
field_of is_fsa_field = kinds.IsFsa
field_of alphabet_field = kinds.Alphabet
field_of alphabet_type_field = kinds.Type
field_of arity_field = kinds.Arity
field_of base_field = kinds.Base
field_of base_type_field = kinds.Type
field_of names_field = kinds.Names
field_of names_size_field = kinds.Size
field_of pairs_size_field = kinds.Size
field_of names_format_field = kinds.Format
field_of states_field = kinds.States
field_of states_type_field = kinds.Type
field_of states_size_field = kinds.Size
field_of initial_field = kinds.Initial
field_of accepting_field = kinds.Accepting
field_of table_field = kinds.Table
field_of default_field = kinds.DefaultTarget
field_of table_format_field = kinds.Format
field_of transitions_field = kinds.Transitions

-- whether a field must be there
pub data Need : Type 0 where
  needed : Need
  optional : Need

abbrev pub need_of : FieldPlace → Need
need_of names_format_field = optional
need_of default_field = optional
need_of _ = needed

-- what is looked at in a field: whether it is there, of its kind, and a value that is read; then, where it is a list,
-- whether what it lists is
pub data FieldStep : Type 0 where
  field_presence : FieldStep
  field_kind : FieldStep
  field_value : FieldStep
  field_elements : FieldStep

-- what is looked at in a row: whether it is of the table's format, and as long as the alphabet where it is dense;
-- then entry by entry whether it is in range, and whether its symbol stood before
pub data RowStep : Type 0 where
  row_kind : RowStep
  row_length : RowStep
  entry_range : ℕ → RowStep
  entry_symbol : ℕ → RowStep

-- a check: that no field name stands twice in a record; one of a field; one of the row at a place of the table; that
-- an automaton of pairs accepts padded texts only
pub data Check : Type 0 where
  no_field_twice : Check
  of_field : FieldPlace → FieldStep → Check
  of_row : ℕ → RowStep → Check
  padded_texts : Check

-- ---- the order

abbrev pub order_of : FieldPlace → ℕ
order_of is_fsa_field = 1
order_of alphabet_field = 2
order_of alphabet_type_field = 3
order_of arity_field = 4
order_of base_field = 5
order_of base_type_field = 6
order_of names_field = 7
order_of names_size_field = 8
order_of pairs_size_field = 9
order_of names_format_field = 10
order_of states_field = 11
order_of states_type_field = 12
order_of states_size_field = 13
order_of initial_field = 14
order_of accepting_field = 15
order_of table_field = 16
order_of default_field = 17
order_of table_format_field = 18
order_of transitions_field = 19

abbrev pub stage_of : Check → ℕ
stage_of no_field_twice = 0
stage_of (of_field place step) = order_of place
stage_of (of_row k step) = 20
stage_of padded_texts = 21

abbrev pub number_of_step : FieldStep → ℕ
number_of_step field_presence = 0
number_of_step field_kind = 1
number_of_step field_value = 2
number_of_step field_elements = 3

abbrev pub number_in_row : RowStep → ℕ
number_in_row row_kind = 0
number_in_row row_length = 1
number_in_row (entry_range j) = 2 + 2 * j
number_in_row (entry_symbol j) = 3 + 2 * j

abbrev pub StepBefore : FieldStep → FieldStep → Type 0
StepBefore step later = number_of_step step < number_of_step later

abbrev pub BeforeInRow : RowStep → RowStep → Type 0
BeforeInRow step later = number_in_row step < number_in_row later

-- of the checks of rows, each with the place of its row
abbrev pub BeforeInTable : ℕ × RowStep → ℕ × RowStep → Type 0
BeforeInTable check later =
    (check.0 < later.0) ⊎ ((check.0 ≡ later.0) × BeforeInRow check.1 later.1)

-- of two checks of one stage
abbrev pub BeforeInStage : Check → Check → Type 0
BeforeInStage (of_field place step) (of_field other later) = StepBefore step later
BeforeInStage (of_row k step) (of_row l later) = BeforeInTable (k, step) (l, later)
BeforeInStage _ _ = ⊥

-- the check comes before the later one
abbrev pub Before : Check → Check → Type 0
Before check later = (stage_of check < stage_of later)
    ⊎ ((stage_of check ≡ stage_of later) × BeforeInStage check later)
