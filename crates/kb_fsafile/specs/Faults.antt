-- When each refusal of an automaton file comes: what each check finds, and that the first fault is named.
use Rattle.std.specs.Prelude.{◌≡◌, ◌≢◌, ℕ, ◌<◌, ◌≤◌, ◌⊎◌, ℤ, pos, List, length, codes, Contains, Option, Some, None, slice_get}
use Rattle.kb_record.specs.Tree.{Value, number_value, string_value, record_value, list_value, Fields, Places, TextTree}
use Rattle.kb_record.specs.Grammar.{TextOf}
use Rattle.kb_record.specs.Nesting.{deepest, text_nesting}
use Rattle.kb_record.specs.Faults.{HasTextFault}
use Rattle.kb_record.specs.declared.error.RecordError.TheVariants as record_errors
use Rattle.kb_fields.specs.Fields.{value_of, list_of_names, value_at, place_count, IsFirstRepeated}
use Rattle.kb_fields.specs.FirstFaults.{IsFirstFault}
use Rattle.kb_fields.specs.Generators.{HasNamesFault}
use Rattle.kb_fields.specs.declared.error.NamesFault.TheVariants as names_faults
use Rattle.kb_fsa.specs.declared.alphabet.Alphabet.TheVariants.{Pair}
use Rattle.kb_fsa.specs.Table.{Table, AcceptsFrom}
use Rattle.kb_fsa.specs.Padding.{IsPadded}
use Rattle.kb_fsafile.specs.Kinds.{count_value, list_of_numbers, list_of_entries, StandsFor, IsNumberOf, IsTargetOf}
use Rattle.kb_fsafile.specs.Holds.{IsPairSize, HoldsStates, HoldsTable, format_name}
use Rattle.kb_fsafile.specs.Checks.{FieldPlace, alphabet_type_field, arity_field, base_type_field, names_field, names_size_field, pairs_size_field, names_format_field, states_type_field, initial_field, accepting_field, default_field, table_format_field, transitions_field}
use Rattle.kb_fsafile.specs.Checks.{field_of, needed, need_of, FieldStep, field_presence, field_kind, field_value, field_elements}
use Rattle.kb_fsafile.specs.Checks.{RowStep, row_kind, row_length, entry_range, entry_symbol, Check, no_field_twice, of_field, of_row, padded_texts, Before}
use Rattle.kb_fsafile.specs.Standing.{name_of, StandsIn, HasFieldKind, IsRowKind, ListsNames, HasTableOf}
use Rattle.kb_fsafile.specs.declared.format.Format.{Format}
use Rattle.kb_fsafile.specs.declared.format.Format.TheVariants.{Dense, Sparse}
use Rattle.kb_fsafile.specs.declared.error.Field.TheVariants as kinds
use Rattle.kb_fsafile.specs.declared.error.FsaError.{FsaError}
use Rattle.kb_fsafile.specs.declared.error.FsaError.TheVariants as errors

-- ---- fields

-- the value of a field of the record is none that is read
abbrev pub IsRefusedValue : Fields → FieldPlace → Fields → Value → FsaError → Type 0
IsRefusedValue given alphabet_type_field owner value error = (error ≡ errors.AlphabetOther)
    × (type : List ℕ) × (value ≡ string_value type) × (type ≢ codes "identifiers")
    × (type ≢ codes "product")
IsRefusedValue given arity_field owner value error = (error ≡ errors.AlphabetOther)
    × (z : ℤ) × (value ≡ number_value z) × (z ≢ pos 2)
IsRefusedValue given base_type_field owner value error = (error ≡ errors.AlphabetOther)
    × (type : List ℕ) × (value ≡ string_value type) × (type ≢ codes "identifiers")
IsRefusedValue given names_field owner value error = (error ≡ errors.TooManyGenerators)
    × HasNamesFault value names_faults.TooMany
IsRefusedValue given names_size_field owner value error = (error ≡ errors.AlphabetOther)
    × (names : List (List ℕ)) × (n : ℕ)
    × (value_of owner (codes "names") ≡ Some (list_value (list_of_names names)))
    × (value ≡ count_value n) × (n ≢ length names)
IsRefusedValue given pairs_size_field owner value error = (error ≡ errors.AlphabetOther)
    × (names : List (List ℕ)) × (n : ℕ) × ListsNames given names × (value ≡ count_value n)
    × (¬ IsPairSize (length names) n)
IsRefusedValue given names_format_field owner value error = (error ≡ errors.AlphabetOther)
    × (text : List ℕ) × (value ≡ string_value text) × (text ≢ codes "dense")
IsRefusedValue given states_type_field owner value error = (error ≡ errors.StatesWrong)
    × (type : List ℕ) × (value ≡ string_value type) × (type ≢ codes "simple")
IsRefusedValue given initial_field owner value error = (error ≡ errors.NotDeterministic)
    × (numbers : List ℤ) × (value ≡ list_value (list_of_numbers numbers)) × (1 < length numbers)
IsRefusedValue given default_field owner value error = (error ≡ errors.NotDeterministic)
    × (z : ℤ) × (value ≡ number_value z) × (z ≢ pos 0)
IsRefusedValue given table_format_field owner value error = (error ≡ errors.NotDeterministic)
    × (text : List ℕ) × (value ≡ string_value text)
    × ((format : Format) → text ≢ format_name format)
IsRefusedValue given transitions_field owner value error = (error ≡ errors.StatesWrong)
    × (count : ℕ) × (places : Places) × HoldsStates given count × (value ≡ list_value places)
    × (place_count places ≢ count)
IsRefusedValue _ _ _ _ _ = ⊥

-- a name that the value lists is taken; a state that it stands for is none of those that there are
abbrev pub HasRefusedElement : Fields → FieldPlace → Value → FsaError → Type 0
HasRefusedElement given names_field value error =
    (name : List ℕ) × (error ≡ errors.NameTaken name) × HasNamesFault value (names_faults.Taken name)
HasRefusedElement given initial_field value error = (error ≡ errors.TargetOutOfRange)
    × (count : ℕ) × (numbers : List ℤ) × (z : ℤ) × HoldsStates given count
    × (value ≡ list_value (list_of_numbers numbers)) × Contains numbers z × (¬ IsNumberOf count z)
HasRefusedElement given accepting_field value error = (error ≡ errors.TargetOutOfRange)
    × (count : ℕ) × (z : ℤ) × HoldsStates given count × StandsFor value z × (¬ IsNumberOf count z)
HasRefusedElement _ _ _ _ = ⊥

-- a step of the field finds the fault in the record
abbrev pub FindsInField : Fields → FieldPlace → Fields → FieldStep → FsaError → Type 0
FindsInField given place owner field_presence error =
    (error ≡ errors.MissingField (field_of place)) × (need_of place ≡ needed)
    × (value_of owner (name_of (field_of place)) ≡ None)
FindsInField given place owner field_kind error =
    (error ≡ errors.WrongKind (field_of place)) × (value : Value)
    × (value_of owner (name_of (field_of place)) ≡ Some value)
    × (¬ HasFieldKind (field_of place) value)
FindsInField given place owner field_value error =
    (value : Value) × (value_of owner (name_of (field_of place)) ≡ Some value)
    × IsRefusedValue given place owner value error
FindsInField given place owner field_elements error =
    (value : Value) × (value_of owner (name_of (field_of place)) ≡ Some value)
    × HasRefusedElement given place value error

-- ---- rows

-- what stands at the place of a row is these targets; these entries
abbrev pub IsRowOfTargets : Option Value → List ℤ → Type 0
IsRowOfTargets row numbers = row ≡ Some (list_value (list_of_numbers numbers))

abbrev pub IsRowOfEntries : Option Value → List (ℤ × ℤ) → Type 0
IsRowOfEntries row entries = row ≡ Some (list_value (list_of_entries entries))

-- a step finds the fault in what stands at the place of a row, over so many symbols and of so many states
abbrev pub FindsInRow : Format → ℕ → ℕ → Option Value → RowStep → FsaError → Type 0
FindsInRow format size count row row_kind error = (error ≡ errors.WrongKind kinds.Transitions)
    × ((value : Value) → row ≡ Some value → ¬ IsRowKind format value)
FindsInRow Dense size count row row_length error = (error ≡ errors.StatesWrong)
    × (numbers : List ℤ) × IsRowOfTargets row numbers × (length numbers ≢ size)
FindsInRow Dense size count row (entry_range j) error = (error ≡ errors.TargetOutOfRange)
    × (numbers : List ℤ) × (z : ℤ) × IsRowOfTargets row numbers × (slice_get numbers j ≡ Some z)
    × (¬ IsTargetOf count z)
FindsInRow Sparse size count row (entry_range j) error = (error ≡ errors.TargetOutOfRange)
    × (entries : List (ℤ × ℤ)) × (z : ℤ) × (t : ℤ) × IsRowOfEntries row entries
    × (slice_get entries j ≡ Some (z, t)) × ((¬ IsNumberOf size z) ⊎ (¬ IsTargetOf count t))
FindsInRow Sparse size count row (entry_symbol j) error = (error ≡ errors.NotDeterministic)
    × (entries : List (ℤ × ℤ)) × (first : ℕ) × (z : ℤ) × (t : ℤ) × (u : ℤ)
    × IsRowOfEntries row entries × (first < j) × (slice_get entries first ≡ Some (z, t))
    × (slice_get entries j ≡ Some (z, u))
FindsInRow _ _ _ _ _ _ = ⊥

-- a step finds the fault in the row at one of these places
abbrev pub FindsInRows : Format → ℕ → ℕ → Places → ℕ × RowStep → FsaError → Type 0
FindsInRows format size count places check error =
    (check.0 < place_count places)
    × FindsInRow format size count (value_at places check.0) check.1 error

-- ---- the file

-- an accepted text of pairs is not padded
pub record HasPaddingInside (given : Fields) : Type 0 where
  pub names : List (List ℕ)
  pub n : ℕ
  pub read : Table
  pub holds : HoldsTable given names (Pair n) read
  pub text : List ℕ
  pub accepted : AcceptsFrom read read.initial text
  pub not_padded : ¬ IsPadded n text

-- the check finds the fault in the fields of a text
abbrev pub Finds : Fields → Check → FsaError → Type 0
Finds given no_field_twice error =
    (name : List ℕ) × (error ≡ errors.FieldTwice name) × IsFirstRepeated (record_value given) name
Finds given (of_field place step) error =
    (owner : Fields) × StandsIn given place owner × FindsInField given place owner step error
Finds given (of_row k step) error =
    (format : Format) × (size : ℕ) × (count : ℕ) × (places : Places)
    × HasTableOf given format size count places
    × FindsInRows format size count places (k, step) error
Finds given padded_texts error = (error ≡ errors.PaddingInside) × HasPaddingInside given

-- the first fault of the fields
abbrev pub IsFirstOf : Fields → FsaError → Type 0
IsFirstOf given = IsFirstFault Before (Finds given)

-- a text of the bytes has this as its first fault
pub record IsFirstOfText (bytes : List ℕ) (error : FsaError) : Type 0 where
  pub text : TextTree
  pub formed : TextOf bytes text
  pub shallow : text_nesting text ≤ deepest
  pub first : IsFirstOf text.fields error

-- The bytes' first fault is the one that the refusal names.
abbrev pub HasFsaFault : List ℕ → FsaError → Type 0
HasFsaFault bytes (errors.Syntax at) = HasTextFault bytes (record_errors.Syntax at)
HasFsaFault bytes (errors.TooDeep at) = HasTextFault bytes (record_errors.TooDeep at)
HasFsaFault bytes errors.Memory = HasTextFault bytes record_errors.Memory
HasFsaFault bytes error = IsFirstOfText bytes error
