-- The trees of words and records.
use Rattle.std.specs.Prelude.{ℕ, ℤ, List, Option}

-- A word is its factors; a factor is a name or a group in round brackets, with its power where it has one.
mutual
  pub data Factor : Type 0 where
    named : List ℕ → Option ℤ → Factor
    grouped : Factors → Option ℤ → Factor

  pub data Factors : Type 0 where
    no_factors : Factors
    factor : Factor → Factors → Factors

mutual
  pub data Value : Type 0 where
    number_value : ℤ → Value
    string_value : List ℕ → Value
    record_value : Fields → Value
    list_value : Places → Value
    range_value : ℤ → ℤ → Value
    word_value : Factors → Value

  pub data Fields : Type 0 where
    no_fields : Fields
    field : List ℕ → Value → Fields → Fields

  -- the places of a list, each with a value or empty
  pub data Places : Type 0 where
    no_places : Places
    place : Value → Places → Places
    empty_place : Places → Places

-- a text: its name and its fields
pub record TextTree : Type 0 where
  pub title : List ℕ
  pub fields : Fields
