-- Names of fields that stand twice in a record.
use Rattle.std.specs.Prelude.{◌≡◌, ℕ, ◌<◌, ◌⊎◌, List, [], ◌∷◌, ◌++◌, Contains, slice_get, Option, Some, None}
use Rattle.kb_record.specs.FirstFaults.{IsFirstFault}
use Rattle.kb_record.specs.Tree.{Value, number_value, string_value, record_value, list_value, range_value, word_value, Fields, no_fields, field, Places, no_places, place, empty_place}

-- the names of the fields, in order
abbrev pub field_names : Fields → List (List ℕ)
field_names no_fields = []
field_names (field text value others) = text ∷ field_names others

-- the name stands at two places
pub record StandsTwice (names : List (List ℕ)) (name : List ℕ) : Type 0 where
  pub first : ℕ
  pub again : ℕ
  pub later : first < again
  pub at_first : slice_get names first ≡ Some name
  pub at_again : slice_get names again ≡ Some name

-- the name stands twice among the fields of some record in the value, nested ones too
abbrev mutual
  pub HasFieldTwice : Value → List ℕ → Type 0
  HasFieldTwice (number_value z) name = ⊥
  HasFieldTwice (string_value text) name = ⊥
  HasFieldTwice (record_value fields) name =
      StandsTwice (field_names fields) name ⊎ SomeFieldHasTwice fields name
  HasFieldTwice (list_value places) name = SomePlaceHasTwice places name
  HasFieldTwice (range_value from to) name = ⊥
  HasFieldTwice (word_value _) name = ⊥

  pub SomeFieldHasTwice : Fields → List ℕ → Type 0
  SomeFieldHasTwice no_fields name = ⊥
  SomeFieldHasTwice (field text value others) name =
      HasFieldTwice value name ⊎ SomeFieldHasTwice others name

  pub SomePlaceHasTwice : Places → List ℕ → Type 0
  SomePlaceHasTwice no_places name = ⊥
  SomePlaceHasTwice (place value others) name =
      HasFieldTwice value name ⊎ SomePlaceHasTwice others name
  SomePlaceHasTwice (empty_place others) name = SomePlaceHasTwice others name

-- the same of what stands at a place
abbrev pub HasFieldTwiceAt : Option Value → List ℕ → Type 0
HasFieldTwiceAt None name = ⊥
HasFieldTwiceAt (Some value) name = HasFieldTwice value name

-- a field's name, and the names that stand before it in its record
pub record Naming : Type 0 where
  pub name : List ℕ
  pub before : List (List ℕ)

-- the names of all fields in the value, nested ones too, in the order of the text
abbrev mutual
  pub namings : Value → List Naming
  namings (number_value z) = []
  namings (string_value text) = []
  namings (record_value fields) = namings_behind [] fields
  namings (list_value places) = namings_in places
  namings (range_value from to) = []
  namings (word_value _) = []

  -- those of a record's fields that stand behind these names
  pub namings_behind : List (List ℕ) → Fields → List Naming
  namings_behind before no_fields = []
  namings_behind before (field text value others) =
      record { name = text; before = before }
      ∷ namings value ++ namings_behind (before ++ text ∷ []) others

  pub namings_in : Places → List Naming
  namings_in no_places = []
  namings_in (place value others) = namings value ++ namings_in others
  namings_in (empty_place others) = namings_in others

-- the name at this place of the list stands before it in its record too
pub record IsRepeatedAt (names : List Naming) (place : ℕ) (name : List ℕ) : Type 0 where
  pub before : List (List ℕ)
  pub stands : slice_get names place ≡ Some (record { name = name; before = before })
  pub again : Contains before name

-- the first name of the list that is repeated
abbrev pub IsFirst : List Naming → List ℕ → Type 0
IsFirst names name = IsFirstFault ◌<◌ (IsRepeatedAt names) name

-- no name of the list is repeated
abbrev pub NoneIs : List Naming → Type 0
NoneIs names = (k : ℕ) (name : List ℕ) → ¬ IsRepeatedAt names k name

-- of the names that stand twice in a record, the one whose second place comes first in the text
abbrev pub IsFirstRepeated : Value → List ℕ → Type 0
IsFirstRepeated value name = IsFirst (namings value) name

-- the same of what stands at a place
abbrev pub IsFirstRepeatedAt : Option Value → List ℕ → Type 0
IsFirstRepeatedAt None name = ⊥
IsFirstRepeatedAt (Some value) name = IsFirstRepeated value name
