-- The kinds of values that an automaton's fields hold.
use Rattle.std.specs.Prelude.{◌≡◌, ℕ, suc, ◌<◌, ◌≤◌, ℤ, pos, ◌≤ℤ◌, List, [], ◌∷◌, Contains}
use Rattle.kb_record.specs.Tree.{Value, number_value, string_value, record_value, list_value, range_value, word_value, Places, no_places, place}
-- a list of numbers
pub use Rattle.kb_fields.specs.Fields.{list_of_numbers}

-- a number from 0 on
abbrev pub count_value : ℕ → Value
count_value n = number_value (pos n)

-- the places of two numbers
abbrev pub two_places : ℤ × ℤ → Places
two_places entry = place (number_value entry.0) (place (number_value entry.1) no_places)

-- an entry of a sparse row: a symbol and a target
abbrev pub entry_value : ℤ × ℤ → Value
entry_value entry = list_value (two_places entry)

-- a list of these entries
abbrev pub list_of_entries : List (ℤ × ℤ) → Places
list_of_entries [] = no_places
list_of_entries (entry ∷ entries) = place (entry_value entry) (list_of_entries entries)

-- the value is a list of numbers or a range
abbrev pub IsNumbers : Value → Type 0
IsNumbers (list_value places) = (numbers : List ℤ) × (places ≡ list_of_numbers numbers)
IsNumbers (range_value from to) = Unit {0}
IsNumbers (number_value _) = ⊥
IsNumbers (string_value _) = ⊥
IsNumbers (record_value _) = ⊥
IsNumbers (word_value _) = ⊥

-- The list or the range stands for the number. A range whose first number is above its last stands for none.
abbrev pub StandsFor : Value → ℤ → Type 0
StandsFor (list_value places) z =
    (numbers : List ℤ) × (places ≡ list_of_numbers numbers) × Contains numbers z
StandsFor (range_value from to) z = (from ≤ℤ z) × (z ≤ℤ to)
StandsFor (number_value _) z = ⊥
StandsFor (string_value _) z = ⊥
StandsFor (record_value _) z = ⊥
StandsFor (word_value _) z = ⊥

-- the number is one of 1 to count
pub record IsNumberOf (count : ℕ) (z : ℤ) : Type 0 where
  pub number : ℕ
  pub is_number : z ≡ pos number
  pub positive : 0 < number
  pub within : number ≤ count

-- the number is one of 0 to count
pub record IsTargetOf (count : ℕ) (z : ℤ) : Type 0 where
  pub number : ℕ
  pub is_number : z ≡ pos number
  pub within : number ≤ count

-- targets with their symbols, the first of which is given
abbrev pub numbered_from : ℕ → List ℕ → List (ℕ × ℕ)
numbered_from symbol [] = []
numbered_from symbol (target ∷ targets) = (symbol, target) ∷ numbered_from (suc symbol) targets
