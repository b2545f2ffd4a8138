-- What the functions that read fields need and answer.
use Rattle.std.specs.Prelude.{◌≡◌, ◌↔◌, ℕ, ◌<◌, ◌≤◌, ℤ, pos, List, map, All, Contains, None, Some, codes}
use Rattle.kb_record.specs.Tree.{Value, number_value, string_value, record_value, list_value, Fields, Places}
use Rattle.kb_fields.specs.Fields.{value_of, list_of_names}
use Rattle.kb_fsa.specs.declared.alphabet.Alphabet.{Alphabet}
use Rattle.kb_fsafile.specs.Kinds.{count_value, IsNumbers, StandsFor, IsNumberOf}
use Rattle.kb_fsafile.specs.Holds.{HoldsRecord, HoldsAlphabet}
use Rattle.kb_fsafile.specs.Checks.{Need, needed, Check, stage_of}
use Rattle.kb_fsafile.specs.Standing.{name_of, IsAlphabetOf, IsBaseOf, HasNamesOf, HasFieldKind, ListsNames}
use Rattle.kb_fsafile.specs.Faults.{Finds, IsFirstOf}
use Rattle.kb_fsafile.specs.declared.accepting.Accepting.{Accepting}
use Rattle.kb_fsafile.specs.declared.accepting.Accepting.TheVariants.{Listed, Range}
use Rattle.kb_fsafile.specs.declared.error.Field.{Field}
use Rattle.kb_fsafile.specs.declared.error.FsaError.{FsaError}
use Rattle.kb_fsafile.specs.declared.error.FsaError.TheVariants as errors

-- the field holds records; lists; strings; numbers; numbers from 0 on
abbrev pub HasRecords : Field → Type 0
HasRecords field =
    (value : Value) → HasFieldKind field value → (inner : Fields) × (value ≡ record_value inner)

abbrev pub HasLists : Field → Type 0
HasLists field =
    (value : Value) → HasFieldKind field value → (places : Places) × (value ≡ list_value places)

abbrev pub HasStrings : Field → Type 0
HasStrings field =
    (value : Value) → HasFieldKind field value → (text : List ℕ) × (value ≡ string_value text)

abbrev pub HasNumbers : Field → Type 0
HasNumbers field =
    (value : Value) → HasFieldKind field value → (z : ℤ) × (value ≡ number_value z)

abbrev pub HasCounts : Field → Type 0
HasCounts field =
    (value : Value) → HasFieldKind field value → (n : ℕ) × (value ≡ count_value n)

-- the refusal of a record whose field isn't there, or is of another kind
abbrev pub IsRefusalOf : Field → Need → Fields → FsaError → Type 0
IsRefusalOf field need owner (errors.MissingField missing) =
    (missing ≡ field) × (need ≡ needed) × (value_of owner (name_of field) ≡ None)
IsRefusalOf field need owner (errors.WrongKind other) =
    (other ≡ field) × (value : Value) × (value_of owner (name_of field) ≡ Some value)
    × (¬ HasFieldKind field value)
IsRefusalOf field need owner _ = ⊥

-- the refusal of a field whose value is of another kind
abbrev pub IsOfOtherKind : Field → Value → FsaError → Type 0
IsOfOtherKind field value error = (error ≡ errors.WrongKind field) × (¬ HasFieldKind field value)

-- it has the fault, or it is want of memory
abbrev pub IsMemoryOr : (FsaError → Type 0) → FsaError → Type 0
IsMemoryOr Has errors.Memory = Unit {0}
IsMemoryOr Has error = Has error

-- the checks of earlier stages find nothing
pub record IsFreeBefore (given : Fields) (stage : ℕ) : Type 0 where
  pub none : (check : Check) (error : FsaError) → stage_of check < stage → ¬ Finds given check error

-- where they do, the refusal is the first fault of the fields, or want of memory
abbrev pub IsFirstFrom : ℕ → Fields → FsaError → Type 0
IsFirstFrom stage given error = IsFreeBefore given stage → IsMemoryOr (IsFirstOf given) error

-- so for each text whose alphabet is the record, of this type; whose base of an alphabet of pairs it is; whose names of
-- letters it has
abbrev pub IsFirstOfAlphabet : ℕ → List ℕ → Fields → FsaError → Type 0
IsFirstOfAlphabet stage type letters error =
    (given : Fields) → IsAlphabetOf given letters type → IsFirstFrom stage given error

abbrev pub IsFirstOfBase : ℕ → Fields → FsaError → Type 0
IsFirstOfBase stage base error =
    (given : Fields) → IsBaseOf given base → IsFirstFrom stage given error

abbrev pub IsFirstOfNames : ℕ → Fields → FsaError → Type 0
IsFirstOfNames stage letters error =
    (given : Fields) → HasNamesOf given letters → IsFirstFrom stage given error

-- so for each text of pairs of words over these names
abbrev pub IsFirstOfPairs : ℕ → Fields → List (List ℕ) → FsaError → Type 0
IsFirstOfPairs stage letters names error =
    (given : Fields) → IsAlphabetOf given letters (codes "product") → ListsNames given names
    → IsFirstFrom stage given error

-- so for each text with this record of a table
abbrev pub IsFirstOfTable : ℕ → Fields → FsaError → Type 0
IsFirstOfTable stage table error =
    (given : Fields) → HoldsRecord given (codes "table") table → IsFirstFrom stage given error

-- the fields have an alphabet over these names, which has so many symbols
pub record HasLetters (given : Fields) (names : List (List ℕ)) (alphabet : Alphabet)
    (size : ℕ) : Type 0 where
  pub letters : Fields
  pub is_record : HoldsRecord given (codes "alphabet") letters
  pub lettered : HoldsAlphabet letters names alphabet size

-- the record lists these names of letters
abbrev pub ListsLetters : Fields → List (List ℕ) → Type 0
ListsLetters letters names =
    value_of letters (codes "names") ≡ Some (list_value (list_of_names names))

-- the state is one of those that accept
abbrev pub IsAcceptingState : Accepting → ℕ → Type 0
IsAcceptingState (Listed states) state = Contains states.items state
IsAcceptingState (Range from to) state = (from ≤ state) × (state ≤ to)

-- the value stands for these of so many states
pub record StandsForStates (count : ℕ) (value : Value) (accepting : Accepting) : Type 0 where
  pub kind : IsNumbers value
  pub within : (z : ℤ) → StandsFor value z → IsNumberOf count z
  pub each : (state : ℕ) → IsAcceptingState accepting state ↔ StandsFor value (pos state)

-- the refusal of accepting states of which one is none of so many
abbrev pub IsOutside : ℕ → Value → FsaError → Type 0
IsOutside count value error = (error ≡ errors.TargetOutOfRange)
    × (z : ℤ) × StandsFor value z × (¬ IsNumberOf count z)

-- the numbers are these states, of so many
pub record AreStates (count : ℕ) (numbers : List ℤ) (states : List ℕ) : Type 0 where
  pub same : numbers ≡ map pos states
  pub within : All (λ state. (0 < state) × (state ≤ count)) states

-- the fields have these of so many states as their accepting ones
pub record HasAcceptingStates (given : Fields) (count : ℕ) (accepting : Accepting) : Type 0 where
  pub value : Value
  pub holds : value_of given (codes "accepting") ≡ Some value
  pub stands : StandsForStates count value accepting
