-- Names that generators can have, and why a value gives none.
use Rattle.std.specs.Prelude.{◌≡◌, ℕ, ◌<◌, ◌≤◌, ◌⊎◌, List, length, take, codes, Contains, slice_get, Some}
use Rattle.kb_record.specs.Tree.{Value}
use Rattle.kb_fields.specs.FirstFaults.{IsFirstFault}
use Rattle.kb_fields.specs.Fields.{IsListOf, StandsTwice}
use Rattle.kb_fields.specs.declared.error.NamesFault.{NamesFault}
use Rattle.kb_fields.specs.declared.error.NamesFault.TheVariants as faults

-- there are at most so many generators
abbrev pub most_generators : ℕ
most_generators = 1000

-- the name stands for the empty word or for padding
abbrev pub IsReserved : List ℕ → Type 0
IsReserved name = (name ≡ codes "IdWord") ⊎ (name ≡ codes "_")

-- a generator can't have the name: it stands twice, or is `IdWord` or `_`
abbrev pub IsTaken : List (List ℕ) → List ℕ → Type 0
IsTaken names name = StandsTwice names name ⊎ (Contains names name × IsReserved name)

-- the name at this place is reserved, or stands before it too
pub record IsTakenAt (names : List (List ℕ)) (place : ℕ) (name : List ℕ) : Type 0 where
  pub stands : slice_get names place ≡ Some name
  pub taken : IsReserved name ⊎ Contains (take place names) name

-- the name at the first place of which it is reserved or stands before
abbrev pub IsFirstTaken : List (List ℕ) → List ℕ → Type 0
IsFirstTaken names name = IsFirstFault ◌<◌ (IsTakenAt names) name

-- there are not too many names, and none of them is taken
pub record AreGeneratorNames (names : List (List ℕ)) : Type 0 where
  pub few : length names ≤ most_generators
  pub free : (name : List ℕ) → ¬ IsTaken names name

-- The value's first fault is this: it is no list of names; or it is one of too many; or of names that aren't too many
-- this is the first that is taken. Want of memory is left free.
abbrev pub HasNamesFault : Value → NamesFault → Type 0
HasNamesFault value faults.WrongKind = (names : List (List ℕ)) → ¬ IsListOf names value
HasNamesFault value faults.TooMany =
    (names : List (List ℕ)) × IsListOf names value × (most_generators < length names)
HasNamesFault value (faults.Taken name) =
    (names : List (List ℕ)) × IsListOf names value × (length names ≤ most_generators)
    × IsFirstTaken names name
HasNamesFault value faults.Memory = Unit {0}
