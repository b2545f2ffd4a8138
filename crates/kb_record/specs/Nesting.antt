-- How deep brackets nest.
use Rattle.std.specs.Prelude.{◌≡◌, ℕ, suc, ◌-◌, ◌≤◌, max, List, [], ◌∷◌, length, take}
use Rattle.kb_lexing.specs.Token.{Token, open_round, close_round, open_square, close_square}
use Rattle.kb_lexing.specs.Spelling.{TokensOf}
use Rattle.kb_lexing.specs.Possible.{IsBegun}
use Rattle.kb_record.specs.Tree.{Factor, named, grouped, Factors, no_factors, factor, Value, number_value, string_value, record_value, list_value, range_value, word_value, Fields, no_fields, field, Places, no_places, place, empty_place, TextTree}

-- brackets in brackets may stand this deep
abbrev pub deepest : ℕ
deepest = 64

abbrev mutual
  pub word_nesting : Factors → ℕ
  word_nesting no_factors = 0
  word_nesting (factor first others) = max (factor_nesting first) (word_nesting others)

  pub factor_nesting : Factor → ℕ
  factor_nesting (named text power) = 0
  factor_nesting (grouped factors power) = suc (word_nesting factors)

abbrev mutual
  pub value_nesting : Value → ℕ
  value_nesting (number_value z) = 0
  value_nesting (string_value text) = 0
  value_nesting (record_value fields) = suc (fields_nesting fields)
  value_nesting (list_value places) = suc (places_nesting places)
  value_nesting (range_value from to) = 1
  value_nesting (word_value factors) = word_nesting factors

  pub fields_nesting : Fields → ℕ
  fields_nesting no_fields = 0
  fields_nesting (field text value others) = max (value_nesting value) (fields_nesting others)

  pub places_nesting : Places → ℕ
  places_nesting no_places = 0
  places_nesting (place value others) = max (value_nesting value) (places_nesting others)
  places_nesting (empty_place others) = places_nesting others

abbrev pub text_nesting : TextTree → ℕ
text_nesting text = suc (fields_nesting text.fields)

-- how many of the brackets are open behind the tokens, where so many were open before them
abbrev pub open_behind : ℕ → List Token → ℕ
open_behind opened [] = opened
open_behind opened (open_round ∷ tokens) = open_behind (suc opened) tokens
open_behind opened (open_square ∷ tokens) = open_behind (suc opened) tokens
open_behind opened (close_round ∷ tokens) = open_behind (opened - 1) tokens
open_behind opened (close_square ∷ tokens) = open_behind (opened - 1) tokens
open_behind opened (_ ∷ tokens) = open_behind opened tokens

-- Some text of the form begins with the tokens of the first n bytes, which have 65 brackets open at their end.
pub record IsDeepFront (HasForm : List Token → Type 0) (bytes : List ℕ) (n : ℕ) : Type 0 where
  pub within : n ≤ length bytes
  pub tokens : List Token
  pub spelled : TokensOf (take n bytes) tokens
  pub opened : open_behind 0 tokens ≡ suc deepest
  pub begun : IsBegun HasForm tokens

-- some front of the bytes is so deep
abbrev pub IsTooDeep : (List Token → Type 0) → List ℕ → Type 0
IsTooDeep HasForm bytes = (n : ℕ) × IsDeepFront HasForm bytes n
