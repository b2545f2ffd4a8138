-- The trees of `specs/Tree.antt` that the types of the code stand for.
use Rattle.std.specs.Prelude.{ℕ, List, [], ◌∷◌, Option, Some, None, map, drop, if◌then◌else◌}
use Rattle.std.specs.Borrow.{Bor}
use Rattle.kb_lexing.specs.Token.{Token, name as name_token, assign}
use Rattle.kb_lexing.proofs.FrontTokens.{tokens_of}
use Rattle.kb_record.specs.Tree.{Factor as FactorTree, named, grouped, Factors, no_factors, factor, Value as ValueTree, number_value, string_value, record_value, list_value, range_value, word_value, Fields, Places, TextTree}
use Rattle.kb_record.specs.Nesting.{deepest}
use Rattle.kb_record.specs.Reading.{Reading, read, unexpected, too_deep, begins_word, ends_place, read_word, read_value, fields_from}
use Rattle.kb_record.specs.declared.tree.Factor.{Factor, fold-Factor}
use Rattle.kb_record.specs.declared.tree.Factor.TheOpen.{Factor-F}
use Rattle.kb_record.specs.declared.tree.Value.{Value, fold-Value}
use Rattle.kb_record.specs.declared.tree.Value.TheOpen.{Value-F}
use Rattle.kb_record.specs.declared.tree.Expr.{Expr}
use Rattle.kb_record.specs.declared.tree.PlaceText.{PlaceText}
use Rattle.kb_record.specs.declared.tree.WrittenPlaces.{WrittenPlaces}
use Rattle.kb_record.specs.declared.tree.FieldText.{FieldText}
use Rattle.kb_record.specs.declared.tree.Field.{Field}
use Rattle.kb_record.specs.declared.fields.FoundValue.{FoundValue}
use Rattle.kb_record.specs.declared.tree.Rec.{Rec}
pub use Rattle.kb_record.specs.Lists.{factors_of, places_of, number_place, row_place, entry_place, entries_place}

-- one level, with each factor inside already seen as its tree
abbrev pub factor_step : Factor-F FactorTree → FactorTree
factor_step (Factor-F.Name text power) = named text.now power
factor_step (Factor-F.Group factors power) = grouped (factors_of factors.items) power

abbrev pub factor_view : Factor → FactorTree
factor_view = fold-Factor FactorTree factor_step

abbrev pub factors_view : List Factor → Factors
factors_view factors = factors_of (map factor_view factors)

-- the factors that are read, and none where that can't be
abbrev pub factors_in : Reading Factors → Factors
factors_in (read tree rest) = tree
factors_in (unexpected expected rest) = no_factors
factors_in (too_deep rest) = no_factors

-- the tree of the word that stands first in a text
abbrev pub first_word : List ℕ → Factors
first_word text = factors_in (read_word deepest (tokens_of text))

-- a word of one factor, a name without a power
abbrev pub one_name : List ℕ → Factors
one_name name = factor (named name None) no_factors

abbrev pub word_view : Expr → Factors
word_view word = first_word word.text.now

-- the value that is read; a text that can't be read stands for an empty string, and is in no tree that was read
abbrev pub value_in : Reading ValueTree → ValueTree
value_in (read tree rest) = tree
value_in (unexpected expected rest) = string_value []
value_in (too_deep rest) = string_value []

-- the value that stands first
abbrev pub first_value : List Token → ValueTree
first_value tokens =
    if begins_word tokens then word_value (factors_in (read_word deepest tokens)) else value_in
    (read_value deepest tokens)

-- what stands at the place of a list that begins here
abbrev pub first_place_in : List Token → Option ValueTree
first_place_in tokens = if ends_place tokens then None else Some (first_value tokens)

-- what stands at a place of a list
abbrev pub written_place : PlaceText → Option ValueTree
written_place place = first_place_in (tokens_of place.text.now)

-- what stands at the place of a list that begins behind so many bytes of a text
abbrev pub place_from : List ℕ → ℕ → Option ValueTree
place_from text begin = first_place_in (tokens_of (drop begin text))

-- what stands at the places of a list, one by one
abbrev pub written_places : WrittenPlaces → List (Option ValueTree)
written_places places = map (place_from places.text.now) places.begins.items

-- the value at a place; an empty one stands for an empty string
abbrev pub value_of_place : Option ValueTree → ValueTree
value_of_place None = string_value []
value_of_place (Some value) = value

-- the name and the value of the field that stands first; a text that begins with none stands for one with an empty
-- name and an empty string, and is in no tree that was read
abbrev pub first_field_in : List Token → List ℕ × ValueTree
first_field_in (name_token text ∷ assign ∷ tokens) = (text, value_of_place (first_place_in tokens))
first_field_in _ = ([], string_value [])

-- the name and the value of a field that is kept as it is written
abbrev pub written_field : FieldText → List ℕ × ValueTree
written_field field = first_field_in (tokens_of field.text.now)

-- the name and the value of a field, with the value inside already seen as its tree
abbrev pub field_step : Field ValueTree → List ℕ × ValueTree
field_step (Field.Written text) = written_field text
field_step (Field.Read name value) = (name.now, value.value)

abbrev pub value_step : Value-F ValueTree → ValueTree
value_step (Value-F.Number z) = number_value z
value_step (Value-F.String text) = string_value text.now
value_step (Value-F.Record fields) =
    record_value (fields_from (map field_step fields.items))
value_step (Value-F.List places) = list_value (places_of (written_places places))
value_step (Value-F.Numbers numbers) = list_value (places_of (map number_place numbers.items))
value_step (Value-F.Rows rows) = list_value (places_of (map row_place rows))
value_step (Value-F.Entries rows) = list_value (places_of (map entries_place rows))
value_step (Value-F.Range from to) = range_value from to
value_step (Value-F.Word word) = word_value (word_view word)

abbrev pub value_view : Value → ValueTree
value_view = fold-Value ValueTree value_step

-- a field as the code has it
abbrev pub field_view : Field Value → List ℕ × ValueTree
field_view (Field.Written text) = written_field text
field_view (Field.Read name value) = (name.now, value_view value.value)

-- the fields of a record as the code has them, as a tree
abbrev pub fields_view : List (Field Value) → Fields
fields_view fields = fields_from (map field_view fields)

-- the tree of a text
abbrev pub text_view : Rec → TextTree
text_view text = record { title = text.name.now; fields = fields_view text.fields.items }

-- the places of a list as the code has them, as a tree
abbrev pub places_view : WrittenPlaces → Places
places_view places = places_of (written_places places)

-- the name and the fields of a text, as they are read
abbrev pub rec_view : Rec → List ℕ × List (List ℕ × ValueTree)
rec_view text = (text.name.now, map field_view text.fields.items)

-- the value that is found in a field
abbrev pub found_view : FoundValue → ValueTree
found_view (FoundValue.Kept value) = value_view value.now
found_view (FoundValue.Read value) = value_view value
