-- What a text of an automaton holds.
use Rattle.std.specs.Prelude.{◌≡◌, ◌≢◌, ◌↔◌, ℕ, suc, ◌+◌, ◌*◌, ◌<◌, ◌≤◌, ◌⊎◌, Bool, false, IsTrue, ℤ, pos, List, [], ◌∷◌, length, map, get_or, codes, All, AllPairs, Option, Some, None}
use Rattle.kb_record.specs.Tree.{Value, string_value, record_value, list_value, Fields, Places, no_places, place, empty_place, TextTree}
use Rattle.kb_record.specs.Grammar.{TextOf}
use Rattle.kb_record.specs.Nesting.{deepest, text_nesting}
use Rattle.kb_fields.specs.Fields.{value_of, bare_name, list_of_names, HasFieldTwice}
use Rattle.kb_fields.specs.Generators.{AreGeneratorNames}
use Rattle.kb_fsa.specs.declared.alphabet.Alphabet.{Alphabet}
use Rattle.kb_fsa.specs.declared.alphabet.Alphabet.TheVariants.{Plain, Pair}
use Rattle.kb_fsa.specs.Table.{Moves, IsRow, target, Table}
use Rattle.kb_fsa.specs.Language.{Automaton}
use Rattle.kb_fsafile.specs.Kinds.{count_value, list_of_numbers, list_of_entries, IsNumbers, StandsFor, IsNumberOf, numbered_from}
use Rattle.kb_padding.specs.Misplaced.{IsCleaned}
use Rattle.kb_fsafile.specs.declared.format.Format.{Format}
use Rattle.kb_fsafile.specs.declared.format.Format.TheVariants.{Dense, Sparse}

-- the field holds this record
abbrev pub HoldsRecord : Fields → List ℕ → Fields → Type 0
HoldsRecord fields name inner = value_of fields name ≡ Some (record_value inner)

-- the field holds this string
abbrev pub HoldsString : Fields → List ℕ → List ℕ → Type 0
HoldsString fields name text = value_of fields name ≡ Some (string_value text)

-- the field holds this number
abbrev pub HoldsCount : Fields → List ℕ → ℕ → Type 0
HoldsCount fields name n = value_of fields name ≡ Some (count_value n)

-- the format of names is absent or dense
abbrev pub IsDense : Option Value → Type 0
IsDense None = Unit {0}
IsDense (Some value) = value ≡ string_value (codes "dense")

-- the record has these names of letters
pub record HoldsNames (fields : Fields) (names : List (List ℕ)) : Type 0 where
  pub type : HoldsString fields (codes "type") (codes "identifiers")
  pub listed : value_of fields (codes "names") ≡ Some (list_value (list_of_names names))
  pub free : AreGeneratorNames names
  pub counted : HoldsCount fields (codes "size") (length names)
  pub format : IsDense (value_of fields (codes "format"))

-- the size of the alphabet of pairs over n letters, with or without the pair of two paddings
abbrev pub IsPairSize : ℕ → ℕ → Type 0
IsPairSize n size = (size + 1 ≡ (n + 1) * (n + 1)) ⊎ (size ≡ (n + 1) * (n + 1))

-- the record of an alphabet of pairs over these names, which has so many symbols
pub record HoldsPairs (fields : Fields) (names : List (List ℕ)) (size : ℕ) : Type 0 where
  pub type : HoldsString fields (codes "type") (codes "product")
  pub arity : HoldsCount fields (codes "arity") 2
  pub base : Fields
  pub is_base : HoldsRecord fields (codes "base") base
  pub named : HoldsNames base names
  pub sized : HoldsCount fields (codes "size") size
  pub right_size : IsPairSize (length names) size

-- the record of an alphabet over these names, which has so many symbols
pub data HoldsAlphabet (fields : Fields) (names : List (List ℕ)) : Alphabet → ℕ → Type 0 where
  plain : {alphabet : Alphabet} {size : ℕ} → alphabet ≡ Plain (length names) → size ≡ length names
      → HoldsNames fields names
      → HoldsAlphabet fields names alphabet size
  pairs : {alphabet : Alphabet} {size : ℕ} → alphabet ≡ Pair (length names)
      → HoldsPairs fields names size
      → HoldsAlphabet fields names alphabet size

-- there are so many states
pub record HoldsStates (fields : Fields) (count : ℕ) : Type 0 where
  pub states : Fields
  pub is_record : HoldsRecord fields (codes "states") states
  pub type : HoldsString states (codes "type") (codes "simple")
  pub size : HoldsCount states (codes "size") count

-- there is no initial state, or this one
pub data HoldsInitial (fields : Fields) (count : ℕ) : ℕ → Type 0 where
  none : value_of fields (codes "initial") ≡ Some (list_value no_places)
      → HoldsInitial fields count 0
  one : {state : ℕ}
      → value_of fields (codes "initial") ≡ Some (list_value (place (count_value state) no_places))
      → 0 < state → state ≤ count → HoldsInitial fields count state

-- of so many states those accept that the list or range stands for
pub record HoldsAccepting (fields : Fields) (count : ℕ) (accepting : List Bool) : Type 0 where
  pub value : Value
  pub holds : value_of fields (codes "accepting") ≡ Some value
  pub kind : IsNumbers value
  pub within : (z : ℤ) → StandsFor value z → IsNumberOf count z
  pub one_each : length accepting ≡ count
  pub each : (place : ℕ) → place < count
      → IsTrue (get_or accepting place false) ↔ StandsFor value (pos (suc place))

-- A row over so many symbols has these entries, each a symbol and a target: in a dense row there is one for each
-- symbol in order, in a sparse one at most one.
pub data HoldsEntries (size : ℕ) (value : Value) : Format → List (ℕ × ℕ) → Type 0 where
  dense : (targets : List ℕ) {entries : List (ℕ × ℕ)}
      → value ≡ list_value (list_of_numbers (map pos targets)) → length targets ≡ size
      → entries ≡ numbered_from 1 targets → HoldsEntries size value Dense entries
  sparse : {entries : List (ℕ × ℕ)}
      → value ≡ list_value (list_of_entries (map (λ (e : ℕ × ℕ). (pos e.0, pos e.1)) entries))
      → AllPairs (λ (e : ℕ × ℕ) (later : ℕ × ℕ). e.0 ≢ later.0) entries
      → All (λ (e : ℕ × ℕ). (0 < e.0) × (e.0 ≤ size)) entries
      → HoldsEntries size value Sparse entries

-- the value is this row: entries with target 0 are no moves
pub record HoldsRow (size count : ℕ) (format : Format) (value : Value) (row : Moves) : Type 0 where
  pub entries : List (ℕ × ℕ)
  pub holds : HoldsEntries size value format entries
  pub targets : All (λ (e : ℕ × ℕ). e.1 ≤ count) entries
  pub is_row : IsRow row
  pub same : (symbol : ℕ) → target row symbol ≡ target entries symbol

-- the places hold these rows
abbrev pub HoldsRows : ℕ → ℕ → Format → Places → List Moves → Type 0
HoldsRows size count format no_places rows = rows ≡ []
HoldsRows size count format (place value others) [] = ⊥
HoldsRows size count format (place value others) (row ∷ rows) =
    HoldsRow size count format value row × HoldsRows size count format others rows
HoldsRows size count format (empty_place others) rows = ⊥

-- the table has no other default target than 0
abbrev pub HasNoDefault : Option Value → Type 0
HasNoDefault None = Unit {0}
HasNoDefault (Some value) = value ≡ count_value 0

-- what a format is called
abbrev pub format_name : Format → List ℕ
format_name Dense = codes "dense deterministic"
format_name Sparse = codes "sparse"

-- the table over so many symbols has these rows
pub record HoldsMoves (fields : Fields) (size : ℕ) (rows : List Moves) : Type 0 where
  pub table : Fields
  pub is_record : HoldsRecord fields (codes "table") table
  pub no_default : HasNoDefault (value_of table (codes "defaultTarget"))
  pub format : Format
  pub named : HoldsString table (codes "format") (format_name format)
  pub places : Places
  pub listed : value_of table (codes "transitions") ≡ Some (list_value places)
  pub each : HoldsRows size (length rows) format places rows

-- the fields say this table over this alphabet, as it stands
pub record HoldsTable (fields : Fields) (names : List (List ℕ)) (alphabet : Alphabet)
    (read : Table) : Type 0 where
  pub once : (name : List ℕ) → ¬ HasFieldTwice (record_value fields) name
  pub is_fsa : value_of fields (codes "isFSA") ≡ Some (bare_name (codes "true"))
  pub letters : Fields
  pub is_record : HoldsRecord fields (codes "alphabet") letters
  pub size : ℕ
  pub lettered : HoldsAlphabet letters names alphabet size
  pub states : HoldsStates fields (length read.rows)
  pub initial : HoldsInitial fields (length read.rows) read.initial
  pub accepting : HoldsAccepting fields (length read.rows) read.accepting
  pub moves : HoldsMoves fields size read.rows

-- the fields say this automaton over letters with these names
pub record HoldsAutomaton (fields : Fields) (names : List (List ℕ))
    (automaton : Automaton) : Type 0 where
  pub read : Table
  pub holds : HoldsTable fields names automaton.alphabet read
  pub cleaned : IsCleaned automaton.alphabet read automaton.table

-- the bytes are a text that says this automaton over letters with these names
pub record AutomatonOf (bytes : List ℕ) (names : List (List ℕ))
    (automaton : Automaton) : Type 0 where
  pub text : TextTree
  pub formed : TextOf bytes text
  pub shallow : text_nesting text ≤ deepest
  pub holds : HoldsAutomaton text.fields names automaton
