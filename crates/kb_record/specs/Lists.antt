-- The parts of trees that are made of lists.
use Rattle.std.specs.Prelude.{ℕ, ℤ, List, [], ◌∷◌, Option, Some, None, map}
use Rattle.std.specs.Borrow.{Bor}
use Rattle.kb_record.specs.Tree.{Factor as FactorTree, Factors, no_factors, factor, Value as ValueTree, number_value, list_value, Fields, no_fields, field, Places, no_places, place, empty_place}

abbrev pub factors_of : List FactorTree → Factors
factors_of [] = no_factors
factors_of (f ∷ fs) = factor f (factors_of fs)

abbrev pub places_of : List (Option ValueTree) → Places
places_of [] = no_places
places_of (None ∷ ps) = empty_place (places_of ps)
places_of (Some v ∷ ps) = place v (places_of ps)

-- a number, a row of numbers, an entry of two numbers and a row of entries as places of a list
abbrev pub number_place : ℤ → Option ValueTree
number_place z = Some (number_value z)

abbrev pub row_place : List ℤ → Option ValueTree
row_place row = Some (list_value (places_of (map number_place row)))

abbrev pub entry_place : ℤ × ℤ → Option ValueTree
entry_place entry = row_place (entry.0 ∷ entry.1 ∷ [])

abbrev pub entries_place : List (ℤ × ℤ) → Option ValueTree
entries_place entries = Some (list_value (places_of (map entry_place entries)))
