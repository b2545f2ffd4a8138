-- Lists of numbers, as tokens.
use Rattle.std.specs.Prelude.{◌≡◌, ◌≤◌, List, [], ◌∷◌, ◌++◌, map, Option, Some, None}
use Rattle.kb_lexing.specs.Token.{Token, close_square}
use Rattle.kb_record.specs.Tree.{Value, list_value}
use Rattle.kb_record.specs.Lists.{places_of}
use Rattle.kb_record.specs.Grammar.{value_tokens, place_tokens, IsValue}
use Rattle.kb_record.specs.Nesting.{value_nesting}

-- the tokens of what stands at a place
abbrev pub tokens_at : Option Value → List Token
tokens_at None = []
tokens_at (Some value) = value_tokens value

-- a list of items as a place
abbrev pub list_place : {A : Type 0} → (A → Option Value) → List A → Option Value
list_place seen items = Some (list_value (places_of (map seen items)))

-- the tokens are those of these places, of the closing bracket, and others
abbrev pub SpellsList : List (Option Value) → List Token → List Token → Type 0
SpellsList places tokens rest = tokens ≡ place_tokens (places_of places) ++ close_square ∷ rest

-- the value is a list that nests three deep at most, and the tokens are those behind its open bracket, and others
pub record IsListSpelled (value : Value) (tokens rest : List Token) : Type 0 where
  pub places : List (Option Value)
  pub is : value ≡ list_value (places_of places)
  pub good : IsValue value
  pub shallow : value_nesting value ≤ 3
  pub spelled : SpellsList places tokens rest
