-- The text of a canonical automaton as it is printed.
use Rattle.std.specs.Prelude.{ℕ, zero, suc, ◌+◌, nat_le, Bool, true, false, ◌&&◌, if◌then◌else◌, pos, List, [], ◌∷◌, length, map, codes}
use Rattle.std.specs.List.{list_all}
use Rattle.kb_record.specs.Tree.{Value, string_value, record_value, list_value, range_value, Fields, no_fields, field, Places, no_places, place, TextTree}
use Rattle.kb_layout.specs.Layout.{printed}
use Rattle.kb_fields.specs.Fields.{bare_name, list_of_names}
use Rattle.kb_fsa.specs.declared.alphabet.Alphabet.{Alphabet}
use Rattle.kb_fsa.specs.declared.alphabet.Alphabet.TheVariants.{Plain, Pair}
use Rattle.kb_fsa.specs.Table.{Moves, target}
use Rattle.kb_fsa.specs.Language.{Automaton, generators, symbols}
use Rattle.kb_fsafile.specs.Kinds.{count_value, list_of_numbers, list_of_entries}
use Rattle.kb_fsaprint.specs.declared.format.RowFormat.{RowFormat}
use Rattle.kb_fsaprint.specs.declared.format.RowFormat.TheVariants.{Dense, Sparse}

abbrev pub numbers_value : List ℕ → Value
numbers_value numbers = list_value (list_of_numbers (map pos numbers))

-- the targets by so many symbols, the first of which is given; 0 stands for none
abbrev pub targets_from : Moves → ℕ → ℕ → List ℕ
targets_from row symbol zero = []
targets_from row symbol (suc columns) = target row symbol ∷ targets_from row (suc symbol) columns

-- how rows are printed over an alphabet: dense over at most 126 names, and sparse over more
abbrev pub format_of : Alphabet → RowFormat
format_of alphabet = if nat_le (generators alphabet) 126 then Dense (symbols alphabet) else Sparse

-- what a format is called
abbrev pub format_name : RowFormat → List ℕ
format_name (Dense size) = codes "dense deterministic"
format_name Sparse = codes "sparse"

-- the moves, each as the list of its symbol and its target
abbrev pub list_of_moves : Moves → Places
list_of_moves row = list_of_entries (map (λ (move : ℕ × ℕ). (pos move.0, pos move.1)) row)

-- a row: the targets by all symbols in order, or the moves
abbrev pub row_places : RowFormat → Moves → Places
row_places (Dense size) row = list_of_numbers (map pos (targets_from row 1 size))
row_places Sparse row = list_of_moves row

-- the rows in a format
abbrev pub rows_places : RowFormat → List Moves → Places
rows_places format [] = no_places
rows_places format (row ∷ rows) =
    place (list_value (row_places format row)) (rows_places format rows)

-- how many moves there are
abbrev pub move_count : List Moves → ℕ
move_count [] = 0
move_count (row ∷ rows) = length row + move_count rows

-- the numbers of the states that accept, the first state having the given number
abbrev pub accepting_from : ℕ → List Bool → List ℕ
accepting_from state [] = []
accepting_from state (true ∷ others) = state ∷ accepting_from (suc state) others
accepting_from state (false ∷ others) = accepting_from (suc state) others

-- a range, where there are at least two states and all accept, and else their list
abbrev pub accepting_value : List Bool → Value
accepting_value accepting =
    if list_all (λ accepts. accepts) accepting && nat_le 2 (length accepting)
    then range_value (pos 1) (pos (length accepting))
    else numbers_value (accepting_from 1 accepting)

-- the record of the letters' names
abbrev pub names_fields : List (List ℕ) → Fields
names_fields names =
    field (codes "type") (string_value (codes "identifiers"))
    (field (codes "size") (count_value (length names))
    (field (codes "format") (string_value (codes "dense"))
    (field (codes "names") (list_value (list_of_names names)) no_fields)))

-- the record of the alphabet
abbrev pub alphabet_fields : Alphabet → List (List ℕ) → Fields
alphabet_fields (Plain n) names = names_fields names
alphabet_fields (Pair n) names =
    field (codes "type") (string_value (codes "product"))
    (field (codes "size") (count_value (symbols (Pair n)))
    (field (codes "arity") (count_value 2)
    (field (codes "padding") (bare_name (codes "_"))
    (field (codes "base") (record_value (names_fields names)) no_fields))))

abbrev pub states_fields : ℕ → Fields
states_fields count =
    field (codes "type") (string_value (codes "simple"))
    (field (codes "size") (count_value count) no_fields)

-- what holds of each canonical automaton
abbrev pub flags_value : Value
flags_value = list_value
    (place (string_value (codes "DFA"))
    (place (string_value (codes "minimized"))
    (place (string_value (codes "BFS"))
    (place (string_value (codes "accessible"))
    (place (string_value (codes "trim")) no_places)))))

abbrev pub table_fields : RowFormat → List Moves → Fields
table_fields format rows =
    field (codes "format") (string_value (format_name format))
    (field (codes "numTransitions") (count_value (move_count rows))
    (field (codes "transitions") (list_value (rows_places format rows)) no_fields))

-- the tree of a canonical automaton, whose initial state is 1
abbrev pub tree_of : List (List ℕ) → Automaton → TextTree
tree_of names automaton = record {
  title = codes "_FSA";
  fields =
      field (codes "isFSA") (bare_name (codes "true"))
      (field (codes "alphabet") (record_value (alphabet_fields automaton.alphabet names))
      (field (codes "states") (record_value (states_fields (length automaton.table.rows)))
      (field (codes "flags") flags_value
      (field (codes "initial") (numbers_value (1 ∷ []))
      (field (codes "accepting") (accepting_value automaton.table.accepting)
      (field (codes "table")
      (record_value (table_fields (format_of automaton.alphabet) automaton.table.rows))
      no_fields))))));
}

-- the one printed text of a canonical automaton
unfoldable pub text_of_automaton : List (List ℕ) → Automaton → List ℕ
text_of_automaton names automaton = printed (tree_of names automaton)
