-- Slots, one for each place, each of which is empty or has something.
use Rattle.std.specs.Prelude.{◌≡◌, ℕ, ◌<◌, ◌⊎◌, List, length, get_or, Option, Some, None}

-- this is in the slot of the place
abbrev pub IsAt : {Made : Type 0} → List (Option Made) → ℕ → Made → Type 0
IsAt slots place made = get_or slots place None ≡ Some made

-- the slot of the place has something
abbrev pub HasAt : {Made : Type 0} → List (Option Made) → ℕ → Type 0
HasAt {Made} slots place = (made : Made) × IsAt slots place made

-- each slot has something
abbrev pub AreFull : {Made : Type 0} → List (Option Made) → Type 0
AreFull slots = (place : ℕ) → place < length slots → HasAt slots place

-- so many slots, and nothing is in them
pub record AreEmpty {Made : Type 0} (places : ℕ) (slots : List (Option Made)) : Type 0 where
  pub count : length slots ≡ places
  pub nothing : (place : ℕ) → get_or slots place None ≡ None

-- Things for places are put into the slots: each slot for which there is one has one of those that are for its place,
-- and the others have what they had.
pub record IsFilled {Made : Type 0} (For : ℕ → Made → Type 0)
    (before after : List (Option Made)) : Type 0 where
  pub count : length after ≡ length before
  pub from : (place : ℕ) (made : Made) → IsAt after place made
      → IsAt before place made ⊎ For place made
  pub kept : (place : ℕ) → HasAt before place → HasAt after place
  pub filled : (place : ℕ) (made : Made) → For place made → HasAt after place
