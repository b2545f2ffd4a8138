-- Fields of records, and values that are names or lists of names.
use Rattle.std.specs.Prelude.{◌≡◌, ℕ, zero, suc, nat_eq, if◌then◌else◌, ℤ, List, [], ◌∷◌, Option, Some, None}
use lib.Pointwise.{pointwise}
use Rattle.kb_record.specs.Tree.{named, no_factors, factor, Value, number_value, list_value, word_value, Fields, no_fields, field, Places, no_places, place, empty_place}
-- the fields, and the places of a list, as the code has them, as trees
pub use Rattle.kb_record.specs.View.{fields_view, places_view}
-- names of fields that stand twice in a record
pub use Rattle.kb_record.specs.Repeats.{field_names, StandsTwice, HasFieldTwice, SomeFieldHasTwice, SomePlaceHasTwice, HasFieldTwiceAt, Naming, namings, namings_behind, namings_in, IsRepeatedAt, IsFirstRepeated, IsFirstRepeatedAt}

-- the value of the first field with this name
abbrev pub value_of : Fields → List ℕ → Option Value
value_of no_fields name = None
value_of (field text value others) name =
    if pointwise nat_eq text name then Some value else value_of others name

-- the value is a Name: a word of one factor that is a bare name
abbrev pub bare_name : List ℕ → Value
bare_name text = word_value (factor (named text None) no_factors)

-- a list of these names
abbrev pub list_of_names : List (List ℕ) → Places
list_of_names [] = no_places
list_of_names (name ∷ names) = place (bare_name name) (list_of_names names)

-- the value is a list of these names
abbrev pub IsListOf : List (List ℕ) → Value → Type 0
IsListOf names value = value ≡ list_value (list_of_names names)

-- a list of these numbers
abbrev pub list_of_numbers : List ℤ → Places
list_of_numbers [] = no_places
list_of_numbers (number ∷ numbers) = place (number_value number) (list_of_numbers numbers)

-- the value at a place that isn't empty
abbrev pub value_at : Places → ℕ → Option Value
value_at no_places k = None
value_at (place value others) zero = Some value
value_at (place value others) (suc k) = value_at others k
value_at (empty_place others) zero = None
value_at (empty_place others) (suc k) = value_at others k

-- how many places there are
abbrev pub place_count : Places → ℕ
place_count no_places = 0
place_count (place value others) = suc (place_count others)
place_count (empty_place others) = suc (place_count others)
