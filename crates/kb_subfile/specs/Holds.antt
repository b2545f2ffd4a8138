-- What a text of a subgroup's generators holds.
use Rattle.std.specs.Prelude.{◌≡◌, ℕ, ◌+◌, ◌≤◌, List, [], ◌∷◌, length, map, codes, Some, Ok}
use Rattle.kb_word.specs.Presentations.{PresentationParts}
use Rattle.kb_record.specs.Tree.{Factors, Value, list_value, word_value, Fields, Places, no_places, place, TextTree, record_value}
use Rattle.kb_record.specs.Grammar.{TextOf}
use Rattle.kb_record.specs.Meaning.{word_meaning}
use Rattle.kb_record.specs.Nesting.{deepest, text_nesting}
use Rattle.kb_fields.specs.Fields.{value_of, HasFieldTwice}
use Rattle.kb_presfile.specs.Holds.{most_equations}

-- the name of the field
abbrev pub field_name : List ℕ
field_name = codes "subGenerators"

-- a list of these words
abbrev pub list_of_words : List Factors → Places
list_of_words [] = no_places
list_of_words (word ∷ words) = place (word_value word) (list_of_words words)

-- the text lists these words
abbrev pub HasWords : Fields → List Factors → Type 0
HasWords fields words = value_of fields field_name ≡ Some (list_value (list_of_words words))

-- the words and the presentation's equations are together no more than a presentation may have
abbrev pub AreFew : PresentationParts → List Factors → Type 0
AreFew parts words = length words + length parts.equations ≤ most_equations

-- the words mean the generators, over the presentation
abbrev pub Mean : PresentationParts → List Factors → List (List ℕ) → Type 0
Mean parts words generators =
    map (word_meaning parts.names parts.inverses) words ≡ map Ok generators

-- the value is a list of words, few enough, that mean the generators
pub record Lists (parts : PresentationParts) (value : Value) (generators : List (List ℕ)) : Type 0 where
  pub words : List Factors
  pub listed : value ≡ list_value (list_of_words words)
  pub few : AreFew parts words
  pub mean : Mean parts words generators

-- the fields of a text say these generators, over the presentation
pub record HoldsGenerators (fields : Fields) (parts : PresentationParts)
    (generators : List (List ℕ)) : Type 0 where
  pub once : (name : List ℕ) → ¬ HasFieldTwice (record_value fields) name
  pub value : Value
  pub given : value_of fields field_name ≡ Some value
  pub lists : Lists parts value generators

-- the bytes are a text that says these generators, over the presentation
pub record GeneratorsOf (bytes : List ℕ) (parts : PresentationParts)
    (generators : List (List ℕ)) : Type 0 where
  pub text : TextTree
  pub formed : TextOf bytes text
  pub shallow : text_nesting text ≤ deepest
  pub holds : HoldsGenerators text.fields parts generators
