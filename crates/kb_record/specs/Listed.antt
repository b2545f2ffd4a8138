-- The places of lists.
use Rattle.std.specs.Prelude.{◌≡◌, List, [], ◌∷◌, Option, Some, None}
use Rattle.kb_record.specs.Tree.{Value as ValueTree, list_value, Places, no_places, place, empty_place}
use Rattle.kb_record.specs.View.{places_of, number_place, row_place, entries_place, written_place}
use Rattle.kb_record.specs.declared.listed.Place.{Place}
use Rattle.kb_record.specs.declared.listed.Place.TheVariants as variants

-- the places of a list, one by one
abbrev pub places_in : Places → List (Option ValueTree)
places_in no_places = []
places_in (place value others) = Some value ∷ places_in others
places_in (empty_place others) = None ∷ places_in others

-- the places of a value that is a list
abbrev pub listed : ValueTree → List (Option ValueTree)
listed (list_value places) = places_in places
listed _ = []

-- the value is a list, of these places
abbrev pub HasPlaces : ValueTree → List (Option ValueTree) → Type 0
HasPlaces value places = value ≡ list_value (places_of places)

-- what stands at a place, as the code has it
abbrev pub place_view : Place → Option ValueTree
place_view (variants.Text text) = written_place text
place_view (variants.Number z) = number_place z
place_view (variants.Numbers numbers) = row_place numbers.now
place_view (variants.Entries entries) = entries_place entries.now
