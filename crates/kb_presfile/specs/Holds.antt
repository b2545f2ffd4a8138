-- What a text of a presentation holds.
use Rattle.std.specs.Prelude.{◌≡◌, ℕ, ◌<◌, ◌≤◌, ℤ, pos, List, [], ◌∷◌, length, map, All, codes, Option, Some, None, slice_get, option_and_then, Ok}
use Rattle.kb_word.specs.Words.{Pair}
use Rattle.kb_word.specs.Weights.{IsWeight}
use Rattle.kb_word.specs.declared.word_order.WordOrder.{WordOrder}
use Rattle.kb_word.specs.declared.word_order.WordOrder.TheVariants as orders
use Rattle.kb_word.specs.Relations.{inverse_letter}
use Rattle.kb_word.specs.Presentations.{PresentationParts}
use Rattle.kb_record.specs.Tree.{Factors, Value, string_value, list_value, Fields, Places, TextTree, record_value}
use Rattle.kb_record.specs.Grammar.{TextOf}
use Rattle.kb_record.specs.Nesting.{deepest, text_nesting}
use Rattle.kb_record.specs.Meaning.{letter_from, word_meaning}
use Rattle.kb_fields.specs.Fields.{value_of, bare_name, list_of_names, list_of_numbers, place_count, HasFieldTwice}
use Rattle.kb_fields.specs.Generators.{AreGeneratorNames}
use Rattle.kb_presfile.specs.declared.order.Ordering.{Ordering}
use Rattle.kb_presfile.specs.declared.order.Ordering.TheVariants as orderings
use Rattle.kb_presfile.specs.Kinds.{list_of_places, list_of_equations, equation_value}

-- a presentation has at most so many equations
abbrev pub most_equations : ℕ
most_equations = 65535

-- the ordering is absent or shortlex
abbrev pub IsShortlex : Option Value → Type 0
IsShortlex None = Unit {0}
IsShortlex (Some value) = value ≡ string_value (codes "shortlex")

-- the orderings that a file may name
abbrev pub IsOrdering : Fields → Ordering → Type 0
IsOrdering fields orderings.ShortLex = IsShortlex (value_of fields (codes "ordering"))
IsOrdering fields orderings.WtLex =
    value_of fields (codes "ordering") ≡ Some (string_value (codes "wtlex"))

-- the numbers are weights, one for each of n generators
pub record AreWeights (n : ℕ) (numbers : List ℤ) (weights : List ℕ) : Type 0 where
  pub same : numbers ≡ map pos weights
  pub one_each : length weights ≡ n
  pub range : All IsWeight weights

-- the text gives the generators these weights
pub record HasWeights (fields : Fields) (names : List (List ℕ)) (weights : List ℕ) : Type 0 where
  pub numbers : List ℤ
  pub listed : value_of fields (codes "weight") ≡ Some (list_value (list_of_numbers numbers))
  pub are : AreWeights (length names) numbers weights

-- the text's order of words is this
abbrev pub HasOrder : Fields → List (List ℕ) → WordOrder → Type 0
HasOrder fields names orders.ShortLex = IsOrdering fields orderings.ShortLex
HasOrder fields names (orders.WtLex weights) =
    IsOrdering fields orderings.WtLex × HasWeights fields names weights

-- the field is absent or holds this list of names and empty places
abbrev pub HoldsPlaces : Option Value → List (Option (List ℕ)) → Type 0
HoldsPlaces None places = places ≡ []
HoldsPlaces (Some value) places = value ≡ list_value (list_of_places places)

-- the name at a place, where places that are missing are empty
abbrev pub place_at : List (Option (List ℕ)) → ℕ → Option (List ℕ)
place_at places k = option_and_then (λ found. found) (slice_get places k)

-- The letters that names at places stand for: each generator's is that of the name at its place.
pub record StandFor (names : List (List ℕ)) (places : List (Option (List ℕ)))
    (letters : List (Option ℕ)) : Type 0 where
  pub one_each : length letters ≡ length names
  pub some : (k : ℕ) (name : List ℕ) → place_at places k ≡ Some name → k < length names
      → (x : ℕ) × (letter_from 1 names name ≡ Some x) × (slice_get letters k ≡ Some (Some x))
  pub empty : (k : ℕ) → k < length names → place_at places k ≡ None
      → slice_get letters k ≡ Some None

-- each letter with an inverse is the inverse of that
abbrev pub AreMutual : List (Option ℕ) → Type 0
AreMutual inverses =
    (x y : ℕ) → inverse_letter inverses x ≡ Some y → inverse_letter inverses y ≡ Some x

-- The inverses that names at places give: those letters, where places past the last generator are empty and
-- an inverse's inverse is the generator.
pub record GivesInverses (names : List (List ℕ)) (places : List (Option (List ℕ)))
    (inverses : List (Option ℕ)) : Type 0 where
  pub letters : StandFor names places inverses
  pub none_past : (k : ℕ) → length names ≤ k → place_at places k ≡ None
  pub both_ways : AreMutual inverses

-- what stands at a place is an equation whose sides mean the pair's words
pub record IsEquation (names : List (List ℕ)) (inverses : List (Option ℕ)) (place : Option Value)
    (pair : Pair) : Type 0 where
  pub sides : Factors × Factors
  pub stands : place ≡ Some (equation_value sides)
  pub left : word_meaning names inverses sides.0 ≡ Ok pair.0
  pub right : word_meaning names inverses sides.1 ≡ Ok pair.1

-- each equation's sides mean the pair's words
abbrev pub AreMeanings : List (List ℕ) → List (Option ℕ) → List (Factors × Factors) → List Pair
    → Type 0
AreMeanings names inverses [] pairs = pairs ≡ []
AreMeanings names inverses (sides ∷ others) [] = ⊥
AreMeanings names inverses (sides ∷ others) (pair ∷ pairs) =
    (word_meaning names inverses sides.0 ≡ Ok pair.0)
    × (word_meaning names inverses sides.1 ≡ Ok pair.1)
    × AreMeanings names inverses others pairs

-- the places hold equations, which mean these pairs of words
pub record AreEquations (names : List (List ℕ)) (inverses : List (Option ℕ)) (places : Places)
    (equations : List Pair) : Type 0 where
  pub sides : List (Factors × Factors)
  pub listed : places ≡ list_of_equations sides
  pub meanings : AreMeanings names inverses sides equations

-- the text's generators are these names
abbrev pub HasNames : Fields → List (List ℕ) → Type 0
HasNames fields names =
    value_of fields (codes "generatorOrder") ≡ Some (list_value (list_of_names names))

-- the text gives the generators these inverses
pub record HasInverses (fields : Fields) (names : List (List ℕ))
    (inverses : List (Option ℕ)) : Type 0 where
  pub places : List (Option (List ℕ))
  pub placed : HoldsPlaces (value_of fields (codes "inverses")) places
  pub gives : GivesInverses names places inverses

-- the text's equations are these pairs of words
pub record HasEquations (fields : Fields) (names : List (List ℕ)) (inverses : List (Option ℕ))
    (equations : List Pair) : Type 0 where
  pub places : Places
  pub listed : value_of fields (codes "equations") ≡ Some (list_value places)
  pub few : place_count places ≤ most_equations
  pub read : AreEquations names inverses places equations

-- the fields of a text say this presentation
pub record HoldsPresentation (fields : Fields) (parts : PresentationParts) : Type 0 where
  pub once : (name : List ℕ) → ¬ HasFieldTwice (record_value fields) name
  pub is_rws : value_of fields (codes "isRWS") ≡ Some (bare_name (codes "true"))
  pub named : HasNames fields parts.names
  pub names : AreGeneratorNames parts.names
  pub ordered : HasOrder fields parts.names parts.order
  pub inverses : HasInverses fields parts.names parts.inverses
  pub equations : HasEquations fields parts.names parts.inverses parts.equations

-- the bytes are a text that says this presentation
pub record PresentationOf (bytes : List ℕ) (parts : PresentationParts) : Type 0 where
  pub text : TextTree
  pub formed : TextOf bytes text
  pub shallow : text_nesting text ≤ deepest
  pub holds : HoldsPresentation text.fields parts
