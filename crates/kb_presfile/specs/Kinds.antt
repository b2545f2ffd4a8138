-- The kinds of values that a presentation's fields hold.
use Rattle.std.specs.Prelude.{ℕ, List, [], ◌∷◌, Option, Some, None}
use Rattle.kb_record.specs.Tree.{Factors, Value, list_value, word_value, Places, no_places, place, empty_place}
use Rattle.kb_fields.specs.Fields.{bare_name}

-- a list of names and empty places
abbrev pub list_of_places : List (Option (List ℕ)) → Places
list_of_places [] = no_places
list_of_places (Some name ∷ names) = place (bare_name name) (list_of_places names)
list_of_places (None ∷ names) = empty_place (list_of_places names)

-- the places of these two words
abbrev pub two_places : Factors × Factors → Places
two_places sides = place (word_value sides.0) (place (word_value sides.1) no_places)

-- a list of two words
abbrev pub equation_value : Factors × Factors → Value
equation_value sides = list_value (two_places sides)

-- a list of lists of two words
abbrev pub list_of_equations : List (Factors × Factors) → Places
list_of_equations [] = no_places
list_of_equations (sides ∷ others) = place (equation_value sides) (list_of_equations others)
