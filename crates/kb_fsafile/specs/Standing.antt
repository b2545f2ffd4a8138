-- Where the fields of an automaton file stand, and of which kind they are.
use Rattle.std.specs.Prelude.{◌≡◌, ℕ, ℤ, List, codes, Some}
use Rattle.kb_record.specs.Tree.{Value, number_value, string_value, record_value, list_value, Fields, Places}
use Rattle.kb_fields.specs.Fields.{value_of, bare_name, list_of_names}
use Rattle.kb_fsafile.specs.Kinds.{count_value, list_of_numbers, list_of_entries, IsNumbers}
use Rattle.kb_fsafile.specs.Holds.{HoldsRecord, HoldsString, HoldsCount, HoldsStates, format_name}
use Rattle.kb_fsafile.specs.Checks.{FieldPlace, is_fsa_field, alphabet_field, alphabet_type_field, arity_field, base_field, base_type_field, names_field, names_size_field, pairs_size_field, names_format_field, states_field, states_type_field, states_size_field, initial_field, accepting_field, table_field, default_field, table_format_field, transitions_field}
use Rattle.kb_fsafile.specs.declared.format.Format.{Format}
use Rattle.kb_fsafile.specs.declared.format.Format.TheVariants.{Dense, Sparse}
use Rattle.kb_fsafile.specs.declared.error.Field.{Field}
use Rattle.kb_fsafile.specs.declared.error.Field.TheVariants as kinds

-- the field's name in a file
abbrev pub name_of : Field → List ℕ
name_of kinds.IsFsa = codes "isFSA"
name_of kinds.Alphabet = codes "alphabet"
name_of kinds.Type = codes "type"
name_of kinds.Arity = codes "arity"
name_of kinds.Base = codes "base"
name_of kinds.Names = codes "names"
name_of kinds.Size = codes "size"
name_of kinds.Format = codes "format"
name_of kinds.States = codes "states"
name_of kinds.Initial = codes "initial"
name_of kinds.Accepting = codes "accepting"
name_of kinds.Table = codes "table"
name_of kinds.DefaultTarget = codes "defaultTarget"
name_of kinds.Transitions = codes "transitions"

-- the record is that of the alphabet, of this type
pub record IsAlphabetOf (given letters : Fields) (type : List ℕ) : Type 0 where
  pub is_record : HoldsRecord given (codes "alphabet") letters
  pub typed : HoldsString letters (codes "type") type

-- the record is the base of an alphabet of pairs
pub record IsBaseOf (given base : Fields) : Type 0 where
  pub letters : Fields
  pub is_product : IsAlphabetOf given letters (codes "product")
  pub is_record : HoldsRecord letters (codes "base") base

-- the record has the names of letters: the alphabet of words, or the base of pairs
pub data HasNamesOf (given : Fields) : Fields → Type 0 where
  of_words : {letters : Fields} → IsAlphabetOf given letters (codes "identifiers")
      → HasNamesOf given letters
  of_pairs : {base : Fields} → IsBaseOf given base
      → HoldsString base (codes "type") (codes "identifiers") → HasNamesOf given base

-- the record in which the field stands
abbrev pub StandsIn : Fields → FieldPlace → Fields → Type 0
StandsIn given is_fsa_field owner = owner ≡ given
StandsIn given alphabet_field owner = owner ≡ given
StandsIn given alphabet_type_field owner = HoldsRecord given (codes "alphabet") owner
StandsIn given arity_field owner = IsAlphabetOf given owner (codes "product")
StandsIn given base_field owner = IsAlphabetOf given owner (codes "product")
StandsIn given base_type_field owner = IsBaseOf given owner
StandsIn given names_field owner = HasNamesOf given owner
StandsIn given names_size_field owner = HasNamesOf given owner
StandsIn given pairs_size_field owner = IsAlphabetOf given owner (codes "product")
StandsIn given names_format_field owner = HasNamesOf given owner
StandsIn given states_field owner = owner ≡ given
StandsIn given states_type_field owner = HoldsRecord given (codes "states") owner
StandsIn given states_size_field owner = HoldsRecord given (codes "states") owner
StandsIn given initial_field owner = owner ≡ given
StandsIn given accepting_field owner = owner ≡ given
StandsIn given table_field owner = owner ≡ given
StandsIn given default_field owner = HoldsRecord given (codes "table") owner
StandsIn given table_format_field owner = HoldsRecord given (codes "table") owner
StandsIn given transitions_field owner = HoldsRecord given (codes "table") owner

-- the value is of the kind that the field holds
abbrev pub HasFieldKind : Field → Value → Type 0
HasFieldKind kinds.IsFsa value = value ≡ bare_name (codes "true")
HasFieldKind kinds.Alphabet value = (fields : Fields) × (value ≡ record_value fields)
HasFieldKind kinds.Type value = (text : List ℕ) × (value ≡ string_value text)
HasFieldKind kinds.Arity value = (z : ℤ) × (value ≡ number_value z)
HasFieldKind kinds.Base value = (fields : Fields) × (value ≡ record_value fields)
HasFieldKind kinds.Names value =
    (names : List (List ℕ)) × (value ≡ list_value (list_of_names names))
HasFieldKind kinds.Size value = (n : ℕ) × (value ≡ count_value n)
HasFieldKind kinds.Format value = (text : List ℕ) × (value ≡ string_value text)
HasFieldKind kinds.States value = (fields : Fields) × (value ≡ record_value fields)
HasFieldKind kinds.Initial value =
    (numbers : List ℤ) × (value ≡ list_value (list_of_numbers numbers))
HasFieldKind kinds.Accepting value = IsNumbers value
HasFieldKind kinds.Table value = (fields : Fields) × (value ≡ record_value fields)
HasFieldKind kinds.DefaultTarget value = (z : ℤ) × (value ≡ number_value z)
HasFieldKind kinds.Transitions value = (places : Places) × (value ≡ list_value places)

-- the place holds a row of the format, whatever its numbers are
abbrev pub IsRowKind : Format → Value → Type 0
IsRowKind Dense value = (numbers : List ℤ) × (value ≡ list_value (list_of_numbers numbers))
IsRowKind Sparse value = (entries : List (ℤ × ℤ)) × (value ≡ list_value (list_of_entries entries))

-- the names of letters that the text lists
pub record ListsNames (given : Fields) (names : List (List ℕ)) : Type 0 where
  pub letters : Fields
  pub has_names : HasNamesOf given letters
  pub listed : value_of letters (codes "names") ≡ Some (list_value (list_of_names names))

-- the table's rows, in the format that its record names
pub record ListsRows (given : Fields) (format : Format) (places : Places) : Type 0 where
  pub table : Fields
  pub is_record : HoldsRecord given (codes "table") table
  pub named : HoldsString table (codes "format") (format_name format)
  pub listed : value_of table (codes "transitions") ≡ Some (list_value places)

-- how many symbols the alphabet has
pub record HasSize (given : Fields) (size : ℕ) : Type 0 where
  pub letters : Fields
  pub is_record : HoldsRecord given (codes "alphabet") letters
  pub is_size : HoldsCount letters (codes "size") size

-- a table of the text over so many symbols and of so many states has these places of rows
pub record HasTableOf (given : Fields) (format : Format) (size count : ℕ)
    (places : Places) : Type 0 where
  pub counted : HoldsStates given count
  pub sized : HasSize given size
  pub listed : ListsRows given format places
