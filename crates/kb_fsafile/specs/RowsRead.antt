-- What the functions that read rows need and answer.
use Rattle.std.specs.Prelude.{◌≡◌, ◌≢◌, ℕ, ◌+◌, ◌*◌, ◌<◌, ◌≤◌, ◌^◌, nat_eq, not, ℤ, pos, List, map, length, filter, All, AllPairs, Option, Some}
use Rattle.std.specs.BTreeMap.{BTreeMap, get}
use Rattle.std.specs.Ordering.{nat_cmp}
use Rattle.kb_record.specs.Tree.{Value, list_value, Fields, Places, TextTree}
use Rattle.kb_record.specs.Grammar.{TextOf}
use Rattle.kb_record.specs.Nesting.{deepest, text_nesting}
use Rattle.kb_fields.specs.Fields.{place_count}
use Rattle.kb_fsa.specs.Table.{Moves, IsRow, Ascends, lookup, target, Table, IsTable, HasSymbols}
use Rattle.kb_fsa.specs.Language.{generators}
use Rattle.kb_fsa.specs.declared.alphabet.Alphabet.{Alphabet}
use Rattle.kb_fsa.specs.declared.alphabet.Alphabet.TheVariants.{Plain, Pair}
use Rattle.kb_fsafile.specs.Kinds.{list_of_numbers, list_of_entries, numbered_from}
use Rattle.kb_fsafile.specs.Holds.{HoldsStates, HoldsInitial, HoldsAccepting, HoldsRow, HoldsRows, HoldsMoves, HoldsTable}
use Rattle.kb_padding.specs.Misplaced.{IsPaddingFault}
use Rattle.kb_padding.specs.declared.error.PaddingFault.{PaddingFault}
use Rattle.kb_fsafile.specs.Refusals.{RefusesPadding}
use Rattle.kb_fields.specs.FirstFaults.{IsFirstFault}
use Rattle.kb_fsafile.specs.Checks.{BeforeInRow, BeforeInTable}
use Rattle.kb_fsafile.specs.Faults.{FindsInRow, FindsInRows}
use Rattle.kb_fsafile.specs.Reading.{IsMemoryOr}
use Rattle.kb_fsafile.specs.declared.format.Format.{Format}
use Rattle.kb_fsafile.specs.declared.format.Format.TheVariants.{Dense, Sparse}
use Rattle.kb_fsafile.specs.declared.error.FsaError.{FsaError}

-- the symbol is one of so many, and the target one of so many states
abbrev pub IsWithin : ℕ → ℕ → ℕ × ℕ → Type 0
IsWithin size count move = (move.0 ≤ size) × (move.1 ≤ count)

-- the entries that are moves: those whose target is a state
abbrev pub moves_among : List (ℕ × ℕ) → Moves
moves_among entries = filter (λ (e : ℕ × ℕ). not (nat_eq e.1 0)) entries

-- the place holds this row
pub record IsRowAt (size count : ℕ) (format : Format) (place : Option Value)
    (row : Moves) : Type 0 where
  pub value : Value
  pub stands : place ≡ Some value
  pub holds : HoldsRow size count format value row
  pub within : All (IsWithin size count) row

-- the places hold these rows
pub record AreRowsAt (size count : ℕ) (format : Format) (places : Places)
    (rows : List Moves) : Type 0 where
  pub holds : HoldsRows size count format places rows
  pub one_each : length rows ≡ place_count places
  pub are_rows : All IsRow rows
  pub within : All (All (IsWithin size count)) rows

-- the text's table has these rows, one for each of so many states
pub record HasRows (given : Fields) (size count : ℕ) (rows : List Moves) : Type 0 where
  pub holds : HoldsMoves given size rows
  pub one_each : length rows ≡ count
  pub few : count < 2 ^ 32
  pub are_rows : All IsRow rows
  pub within : All (All (IsWithin size count)) rows

-- the refusal is the first fault of what stands at the place of a row, or want of memory; so of the rows at these
-- places
abbrev pub IsFirstOfRow : Format → ℕ → ℕ → Option Value → FsaError → Type 0
IsFirstOfRow format size count row =
    IsMemoryOr (IsFirstFault BeforeInRow (FindsInRow format size count row))

abbrev pub IsFirstOfRows : Format → ℕ → ℕ → Places → FsaError → Type 0
IsFirstOfRows format size count places =
    IsMemoryOr (IsFirstFault BeforeInTable (FindsInRows format size count places))

-- the same of these targets as a row; of these entries as a row
abbrev pub IsFirstOfTargets : ℕ → ℕ → List ℤ → FsaError → Type 0
IsFirstOfTargets size count numbers =
    IsFirstOfRow Dense size count (Some (list_value (list_of_numbers numbers)))

abbrev pub IsFirstOfEntries : ℕ → ℕ → List (ℤ × ℤ) → FsaError → Type 0
IsFirstOfEntries size count pairs =
    IsFirstOfRow Sparse size count (Some (list_value (list_of_entries pairs)))

-- the numbers are targets, of so many states, and these are the moves among them
pub record AreRowTargets (count : ℕ) (numbers : List ℤ) (moves : List (ℕ × ℕ)) : Type 0 where
  pub targets : List ℕ
  pub same : numbers ≡ map pos targets
  pub within : All (λ target. target ≤ count) targets
  pub kept : moves ≡ moves_among (numbered_from 1 targets)

-- the pairs of numbers are entries, no two of one symbol
pub record AreEntries (size count : ℕ) (pairs : List (ℤ × ℤ))
    (entries : List (ℕ × ℕ)) : Type 0 where
  pub same : pairs ≡ map (λ (e : ℕ × ℕ). (pos e.0, pos e.1)) entries
  pub apart : AllPairs (λ (e : ℕ × ℕ) (later : ℕ × ℕ). e.0 ≢ later.0) entries
  pub symbols : All (λ (e : ℕ × ℕ). (0 < e.0) × (e.0 ≤ size)) entries
  pub targets : All (λ (e : ℕ × ℕ). e.1 ≤ count) entries

-- the map has the entries that the pairs of numbers are
pub record HasEntries (size count : ℕ) (pairs : List (ℤ × ℤ)) (found : BTreeMap ℕ ℕ) : Type 0 where
  pub entries : List (ℕ × ℕ)
  pub are : AreEntries size count pairs entries
  pub each : (symbol : ℕ) → get nat_cmp found symbol ≡ lookup entries symbol

-- the pairs of numbers are entries of ascending symbols, none of them above the last, and these are
-- the moves among them
pub record AreAscendingEntries (size count last : ℕ) (pairs : List (ℤ × ℤ))
    (moves : Moves) : Type 0 where
  pub entries : List (ℕ × ℕ)
  pub are : AreEntries size count pairs entries
  pub ascends : Ascends entries
  pub upto : All (λ (e : ℕ × ℕ). e.0 ≤ last) entries
  pub kept : moves ≡ moves_among entries

-- the row has the moves that the pairs of numbers are
pub record IsSparseRow (size count : ℕ) (pairs : List (ℤ × ℤ)) (row : Moves) : Type 0 where
  pub entries : List (ℕ × ℕ)
  pub are : AreEntries size count pairs entries
  pub is_row : IsRow row
  pub each : (symbol : ℕ) → target row symbol ≡ target entries symbol

-- the text has this table over so many symbols
pub record HasTable (given : Fields) (size : ℕ) (read : Table) : Type 0 where
  pub states : HoldsStates given (length read.rows)
  pub initial : HoldsInitial given (length read.rows) read.initial
  pub accepting : HoldsAccepting given (length read.rows) read.accepting
  pub moves : HoldsMoves given size read.rows
  pub symbols : HasSymbols size read
  pub is_table : IsTable read

-- the most symbols that the table of a file has, the pair of two paddings perhaps among them
abbrev pub most_symbols : Alphabet → ℕ
most_symbols (Plain n) = n
most_symbols (Pair n) = (n + 1) * (n + 1)

-- the fields have this table over these letters, as it stands
pub record HasLetteredTable (given : Fields) (names : List (List ℕ)) (alphabet : Alphabet)
    (read : Table) : Type 0 where
  pub holds : HoldsTable given names alphabet read
  pub few : generators alphabet ≤ 65534
  pub symbols : HasSymbols (most_symbols alphabet) read
  pub is_table : IsTable read

-- the bytes are a text that has it
pub record TableOf (bytes : List ℕ) (names : List (List ℕ)) (alphabet : Alphabet)
    (read : Table) : Type 0 where
  pub text : TextTree
  pub formed : TextOf bytes text
  pub shallow : text_nesting text ≤ deepest
  pub has : HasLetteredTable text.fields names alphabet read

-- why the table is refused: it is one of pairs and accepts a text that isn't padded
abbrev pub IsCleaningFault : Alphabet → Table → FsaError → Type 0
IsCleaningFault (Plain n) read error = ⊥
IsCleaningFault (Pair n) read error =
    (fault : PaddingFault) × IsPaddingFault n read fault × RefusesPadding fault error
