-- The tree of a canonical automaton can be spelled, is shallow, and has no field twice.
use Rattle.std.proofs.Common.{◌≡◌, ℕ, zero, suc, ◌+◌, ◌*◌, ◌<◌, ◌≤◌, Bool, true, false, ◌&&◌, if◌then◌else◌, nat_le, ℤ, pos, List, [], ◌∷◌, map, length, refl, ap, arith}
use Rattle.std.specs.Prelude.{codes}
use Rattle.std.specs.List.{All, AllByRecursion, list_all}
use Rattle.std.proofs.Math.Nat.{max-le}
use Rattle.std.proofs.lemmas.Nat.{mul-le}
use Rattle.std.proofs.lemmas.List.Elements.{All-head, All-tail}
use Rattle.kb_record.specs.Tree.{Value, range_value, list_value, record_value}
use Rattle.kb_record.specs.Spelling.{IsName, IsStringByte}
use Rattle.kb_record.specs.Grammar.{IsValue, AreFields, IsPlaceList, ArePlaces}
use Rattle.kb_layout.specs.Layout.{IsSpelledValue, AreSpelledFields, AreSpelledPlaces}
use Rattle.kb_record.specs.Nesting.{value_nesting, fields_nesting, places_nesting, text_nesting, deepest}
use Rattle.kb_fields.specs.Fields.{field_names, HasFieldTwice, SomePlaceHasTwice}
use Rattle.kb_fields.specs.Generators.{most_generators}
use Rattle.kb_fsa.specs.declared.alphabet.Alphabet.{Alphabet}
use Rattle.kb_fsa.specs.declared.alphabet.Alphabet.TheVariants.{Plain, Pair}
use Rattle.kb_fsa.specs.Table.{Moves, IsRow, Table, IsTable, HasSymbols, target}
use Rattle.kb_fsa.specs.Language.{Automaton, IsAutomaton, generators, symbols}
use Rattle.kb_fsa.proofs.Lookups.{Ascends-head, Ascends-tail, target_within}
use Rattle.kb_fsa.specs.Table.{Ascends}
use Rattle.kb_fsafile.specs.Kinds.{list_of_numbers}
use Rattle.kb_fsaprint.specs.Printed.{numbers_value, targets_from, list_of_moves, row_places, rows_places, format_of, format_name, move_count, accepting_from, accepting_value, names_fields, alphabet_fields, states_fields, flags_value, table_fields, tree_of}
use Rattle.kb_fsaprint.specs.declared.format.RowFormat.{RowFormat}
use Rattle.kb_fsaprint.specs.declared.format.RowFormat.TheVariants.{Dense, Sparse}
use Rattle.kb_layout.proofs.WrittenLists.{names_formed, numbers_formed, names_shallow, numbers_shallow, none_of, nothing, names_once, numbers_once, short, names_spelled}
use Rattle.kb_layout.proofs.SpelledValues.{word_is_name, string_bytes, none_stands_twice}

-- what holds of a range and of a list holds of the accepting states
either : (P : Value → Type 0) (b : Bool) (x y : Value) → P x → P y → P (if b then x else y)
either P true x y one other = one
either P false x y one other = other

accepting_by : (P : Value → Type 0) (marks : List Bool) → P (range_value (pos 1) (pos (length marks))) → P (numbers_value (accepting_from 1 marks)) → P (accepting_value marks)
accepting_by P marks range list =
    either P (list_all (λ (accepts : Bool). accepts) marks && nat_le 2 (length marks)) (range_value (pos 1) (pos (length marks))) (numbers_value (accepting_from 1 marks)) range list

-- ---- trees that can be written

moves_formed : (row : Moves) → IsPlaceList (list_of_moves row) × ArePlaces (list_of_moves row)
moves_formed [] = (tt, tt)
moves_formed (move ∷ row) = (tt, ((tt, (tt, (tt, tt))), (moves_formed row).1))

row_formed : (format : RowFormat) (row : Moves) → IsPlaceList (row_places format row) × ArePlaces (row_places format row)
row_formed (Dense size) row = numbers_formed (map pos (targets_from row 1 size))
row_formed Sparse row = moves_formed row

rows_formed : (format : RowFormat) (rows : List Moves) → IsPlaceList (rows_places format rows) × ArePlaces (rows_places format rows)
rows_formed format [] = (tt, tt)
rows_formed format (row ∷ rows) = (tt, (row_formed format row, (rows_formed format rows).1))

letters_formed : (names : List (List ℕ)) → AreFields (names_fields names)
letters_formed names = (tt, (tt, (tt, (names_formed names, tt))))

alphabet_formed : (alphabet : Alphabet) (names : List (List ℕ)) → AreFields (alphabet_fields alphabet names)
alphabet_formed (Plain n) names = letters_formed names
alphabet_formed (Pair n) names = (tt, (tt, (tt, ((tt, tt), (letters_formed names, tt)))))

pub tree_formed : (names : List (List ℕ)) (automaton : Automaton) → AreFields (tree_of names automaton).fields
tree_formed names automaton = (
  (tt, tt),
  (
    alphabet_formed automaton.alphabet names,
    (
      (tt, (tt, tt)),
      (
        (tt, (tt, (tt, (tt, (tt, (tt, tt)))))),
        (
          (tt, (tt, tt)),
          (
            accepting_by IsValue automaton.table.accepting tt (numbers_formed (map pos (accepting_from 1 automaton.table.accepting))),
            ((tt, (tt, (rows_formed (format_of automaton.alphabet) automaton.table.rows, tt))), tt),
          ),
        ),
      ),
    ),
  ),
)

-- ---- how deep they nest

list_shallow : (numbers : List ℤ) → value_nesting (list_value (list_of_numbers numbers)) ≤ 1
list_shallow numbers = omega (arith, numbers_shallow numbers)

moves_shallow : (row : Moves) → places_nesting (list_of_moves row) ≤ 1
moves_shallow [] = omega arith
moves_shallow (move ∷ row) = max-le (omega arith) (moves_shallow row)

row_shallow : (format : RowFormat) (row : Moves) → value_nesting (list_value (row_places format row)) ≤ 2
row_shallow (Dense size) row = omega (arith, list_shallow (map pos (targets_from row 1 size)))
row_shallow Sparse row = omega (arith, moves_shallow row)

rows_shallow : (format : RowFormat) (rows : List Moves) → places_nesting (rows_places format rows) ≤ 2
rows_shallow format [] = omega arith
rows_shallow format (row ∷ rows) = max-le (row_shallow format row) (rows_shallow format rows)

letters_shallow : (names : List (List ℕ)) → fields_nesting (names_fields names) ≤ 1
letters_shallow names = max-le (omega arith) (max-le (omega arith) (max-le (omega arith) (max-le (omega (arith, names_shallow names)) (omega arith))))

alphabet_shallow : (alphabet : Alphabet) (names : List (List ℕ)) → fields_nesting (alphabet_fields alphabet names) ≤ 2
alphabet_shallow (Plain n) names = omega (arith, letters_shallow names)
alphabet_shallow (Pair n) names =
    max-le (omega arith) (max-le (omega arith) (max-le (omega arith) (max-le (omega arith) (max-le (omega (arith, letters_shallow names)) (omega arith)))))

table_shallow : (format : RowFormat) (rows : List Moves) → fields_nesting (table_fields format rows) ≤ 3
table_shallow format rows = max-le (omega arith) (max-le (omega arith) (max-le (omega (arith, rows_shallow format rows)) (omega arith)))

accepting_shallow : (marks : List Bool) → value_nesting (accepting_value marks) ≤ 1
accepting_shallow marks = accepting_by (λ v. value_nesting v ≤ 1) marks (omega arith) (list_shallow (map pos (accepting_from 1 marks)))

fields_shallow : (names : List (List ℕ)) (automaton : Automaton) → fields_nesting (tree_of names automaton).fields ≤ 4
fields_shallow names automaton =
    max-le (omega arith) (max-le (omega (arith, alphabet_shallow automaton.alphabet names)) (max-le (omega arith) (max-le (omega arith) (max-le (omega arith)
    (max-le (omega (arith, accepting_shallow automaton.table.accepting))
    (max-le (omega (arith, table_shallow (format_of automaton.alphabet) automaton.table.rows)) (omega arith)))))))

pub tree_shallow : (names : List (List ℕ)) (automaton : Automaton) → text_nesting (tree_of names automaton) ≤ deepest
tree_shallow names automaton = omega (arith, fields_shallow names automaton)

-- ---- no field stands twice

moves_once : (row : Moves) (name : List ℕ) → SomePlaceHasTwice (list_of_moves row) name → ⊥
moves_once [] name f = f
moves_once (move ∷ row) name f = none_of (none_of nothing (none_of nothing nothing)) (moves_once row name) f

row_once : (format : RowFormat) (row : Moves) (name : List ℕ) → SomePlaceHasTwice (row_places format row) name → ⊥
row_once (Dense size) row name f = numbers_once (map pos (targets_from row 1 size)) name f
row_once Sparse row name f = moves_once row name f

rows_once : (format : RowFormat) (rows : List Moves) (name : List ℕ) → SomePlaceHasTwice (rows_places format rows) name → ⊥
rows_once format [] name f = f
rows_once format (row ∷ rows) name f = none_of (row_once format row name) (rows_once format rows name) f

letters_once : (names : List (List ℕ)) (name : List ℕ) → HasFieldTwice (record_value (names_fields names)) name → ⊥
letters_once names name f =
    none_of (none_stands_twice (field_names (names_fields names)) name refl) (none_of nothing (none_of nothing (none_of nothing (none_of (names_once names name) nothing)))) f

alphabet_once : (alphabet : Alphabet) (names : List (List ℕ)) (name : List ℕ) → HasFieldTwice (record_value (alphabet_fields alphabet names)) name → ⊥
alphabet_once (Plain n) names name f = letters_once names name f
alphabet_once (Pair n) names name f =
    none_of (none_stands_twice (field_names (alphabet_fields (Pair n) names)) name refl)
    (none_of nothing (none_of nothing (none_of nothing (none_of nothing (none_of (letters_once names name) nothing))))) f

states_once : (count : ℕ) (name : List ℕ) → HasFieldTwice (record_value (states_fields count)) name → ⊥
states_once count name f = none_of (none_stands_twice (field_names (states_fields count)) name refl) (none_of nothing (none_of nothing nothing)) f

flags_once : (name : List ℕ) → HasFieldTwice flags_value name → ⊥
flags_once name f = none_of nothing (none_of nothing (none_of nothing (none_of nothing (none_of nothing nothing)))) f

table_once : (format : RowFormat) (rows : List Moves) (name : List ℕ) → HasFieldTwice (record_value (table_fields format rows)) name → ⊥
table_once format rows name f =
    none_of (none_stands_twice (field_names (table_fields format rows)) name refl) (none_of nothing (none_of nothing (none_of (rows_once format rows name) nothing))) f

accepting_once : (marks : List Bool) (name : List ℕ) → HasFieldTwice (accepting_value marks) name → ⊥
accepting_once marks name = accepting_by (λ v. HasFieldTwice v name → ⊥) marks nothing (numbers_once (map pos (accepting_from 1 marks)) name)

pub tree_once : (names : List (List ℕ)) (automaton : Automaton) (name : List ℕ) → HasFieldTwice (record_value (tree_of names automaton).fields) name → ⊥
tree_once names automaton name f =
    none_of (none_stands_twice (field_names (tree_of names automaton).fields) name refl)
    (none_of nothing (none_of (alphabet_once automaton.alphabet names name) (none_of (states_once (length automaton.table.rows) name)
    (none_of (flags_once name) (none_of (numbers_once (map pos (1 ∷ [])) name) (none_of (accepting_once automaton.table.accepting name)
    (none_of (table_once (format_of automaton.alphabet) automaton.table.rows name) nothing))))))) f

-- ---- names, strings and numbers are spelled

targets_spelled : (row : Moves) (count symbol columns : ℕ) → count < 1000000000000000000 → All (λ (move : ℕ × ℕ). move.1 ≤ count) row
    → AreSpelledPlaces (list_of_numbers (map pos (targets_from row symbol columns)))
targets_spelled row count symbol zero small within = tt
targets_spelled row count symbol (suc columns) small within =
    let bound = target_within row symbol count within in
    (short (target row symbol) (omega (arith, small, bound)), targets_spelled row count (suc symbol) columns small within)

moves_spelled : (row : Moves) (size count : ℕ) → size < 1000000000000000000 → count < 1000000000000000000 → All (λ (move : ℕ × ℕ). move.0 ≤ size) row
    → All (λ (move : ℕ × ℕ). move.1 ≤ count) row → AreSpelledPlaces (list_of_moves row)
moves_spelled [] size count small few symbols targets = tt
moves_spelled (move ∷ row) size count small few symbols targets =
    let S : ℕ × ℕ → Type 0 = λ m. m.0 ≤ size in
    let T : ℕ × ℕ → Type 0 = λ m. m.1 ≤ count in
    let symbol = All-head S move row symbols in
    let to = All-head T move row targets in (
      (short move.0 (omega (arith, small, symbol)), (short move.1 (omega (arith, few, to)), tt)),
      moves_spelled row size count small few (All-tail S move row symbols) (All-tail T move row targets),
    )

row_spelled : (format : RowFormat) (row : Moves) (size count : ℕ) → size < 1000000000000000000 → count < 1000000000000000000
    → All (λ (move : ℕ × ℕ). move.0 ≤ size) row → All (λ (move : ℕ × ℕ). move.1 ≤ count) row → AreSpelledPlaces (row_places format row)
row_spelled (Dense columns) row size count small few symbols targets = targets_spelled row count 1 columns few targets
row_spelled Sparse row size count small few symbols targets = moves_spelled row size count small few symbols targets

rows_spelled : (format : RowFormat) (rows : List Moves) (size count : ℕ) → size < 1000000000000000000 → count < 1000000000000000000
    → All (All (λ (move : ℕ × ℕ). move.0 ≤ size)) rows → All (All (λ (move : ℕ × ℕ). move.1 ≤ count)) rows → AreSpelledPlaces (rows_places format rows)
rows_spelled format [] size count small few symbols targets = tt
rows_spelled format (row ∷ rows) size count small few symbols targets =
    let S : Moves → Type 0 = λ r. All (λ (move : ℕ × ℕ). move.0 ≤ size) r in
    let T : Moves → Type 0 = λ r. All (λ (move : ℕ × ℕ). move.1 ≤ count) r in (
      row_spelled format row size count small few (All-head S row rows symbols) (All-head T row rows targets),
      rows_spelled format rows size count small few (All-tail S row rows symbols) (All-tail T row rows targets),
    )

format_spelled : (format : RowFormat) → AllByRecursion IsStringByte (format_name format)
format_spelled (Dense size) = string_bytes (codes "dense deterministic") refl
format_spelled Sparse = string_bytes (codes "sparse") refl

accepting_spelled : (state : ℕ) (marks : List Bool) → state + length marks < 1000000000000000000 → AreSpelledPlaces (list_of_numbers (map pos (accepting_from state marks)))
accepting_spelled state [] small = tt
accepting_spelled state (true ∷ marks) small = (short state (omega (arith, small)), accepting_spelled (suc state) marks (omega (arith, small)))
accepting_spelled state (false ∷ marks) small = accepting_spelled (suc state) marks (omega (arith, small))

letters_spelled : (names : List (List ℕ)) → All IsName names → length names ≤ most_generators → AreSpelledFields (names_fields names)
letters_spelled names each few = (
  word_is_name (codes "type") refl,
  string_bytes (codes "identifiers") refl,
  (
    word_is_name (codes "size") refl,
    short (length names) (omega (arith, few)),
    (
      word_is_name (codes "format") refl,
      string_bytes (codes "dense") refl,
      (word_is_name (codes "names") refl, names_spelled names each, tt),
    ),
  ),
)

few_symbols : (alphabet : Alphabet) → generators alphabet ≤ most_generators → symbols alphabet ≤ 1002000
few_symbols (Plain n) few = omega (arith, few)
few_symbols (Pair n) few =
    let square : (n + 1) * (n + 1) ≤ 1002001 = mul-le (n + 1) (n + 1) 1001 1001 (omega (arith, few)) (omega (arith, few)) in
    omega (arith, square)

alphabet_spelled : (alphabet : Alphabet) (names : List (List ℕ)) → All IsName names → length names ≤ most_generators → symbols alphabet ≤ 1002000
    → AreSpelledFields (alphabet_fields alphabet names)
alphabet_spelled (Plain n) names each few small = letters_spelled names each few
alphabet_spelled (Pair n) names each few small = (
  word_is_name (codes "type") refl,
  string_bytes (codes "product") refl,
  (
    word_is_name (codes "size") refl,
    short (symbols (Pair n)) (omega (arith, small)),
    (
      word_is_name (codes "arity") refl,
      short 2 (omega arith),
      (
        word_is_name (codes "padding") refl,
        ((word_is_name (codes "_") refl, tt), tt),
        (word_is_name (codes "base") refl, letters_spelled names each few, tt),
      ),
    ),
  ),
)

-- a row has at most one move for each symbol
few_above : (low size : ℕ) (row : Moves) → low ≤ size → Ascends row → All (λ (move : ℕ × ℕ). low < move.0) row → All (λ (move : ℕ × ℕ). move.0 ≤ size) row
    → length row + low ≤ size
few_above low size [] room ascends above within = omega (arith, room)
few_above low size (move ∷ row) room ascends above within =
    let first = All-head (λ (m : ℕ × ℕ). low < m.0) move row above in
    let last = All-head (λ (m : ℕ × ℕ). m.0 ≤ size) move row within in
    let rest = few_above move.0 size row last (Ascends-tail move row ascends) (Ascends-head move row ascends) (All-tail (λ (m : ℕ × ℕ). m.0 ≤ size) move row within) in
    omega (arith, first, last, rest)

few_moves : (size : ℕ) (row : Moves) → IsRow row → All (λ (move : ℕ × ℕ). move.0 ≤ size) row → length row ≤ size
few_moves size row is within =
    let bound = few_above 0 size row (omega arith) is.ascends (λ k d inside. (is.numbers k d inside).0) within in omega (arith, bound)

count_of_moves : (size : ℕ) (rows : List Moves) → All IsRow rows → All (All (λ (move : ℕ × ℕ). move.0 ≤ size)) rows → move_count rows ≤ length rows * size
count_of_moves size [] are within = omega arith
count_of_moves size (row ∷ rows) are within =
    let P : Moves → Type 0 = λ r. All (λ (move : ℕ × ℕ). move.0 ≤ size) r in
    let first = few_moves size row (All-head IsRow row rows are) (All-head P row rows within) in
    let rest = count_of_moves size rows (All-tail IsRow row rows are) (All-tail P row rows within) in
    let whole : (length rows + 1) * size ≡ length rows * size + size = grind arith in
    let count : length (row ∷ rows) ≡ length rows + 1 = omega arith in
    let product = ap (λ n. n * size) count in
    omega (arith, first, rest, whole, product)

moves_short : (size : ℕ) (table : Table) → IsTable table → HasSymbols size table → size ≤ 1002000 → move_count table.rows < 1000000000000000000
moves_short size table is within small =
    let moves = count_of_moves size table.rows is.rows within in
    let bound : length table.rows * size ≤ 4294967296 * 1002000 = mul-le (length table.rows) size 4294967296 1002000 (omega (arith, is.size)) small in
    omega (arith, moves, bound)

table_spelled : (format : RowFormat) (size : ℕ) (table : Table) → IsTable table → HasSymbols size table → size ≤ 1002000
    → AreSpelledFields (table_fields format table.rows)
table_spelled format size table is within small = (
  word_is_name (codes "format") refl,
  format_spelled format,
  (
    word_is_name (codes "numTransitions") refl,
    short (move_count table.rows) (moves_short size table is within small),
    (word_is_name (codes "transitions") refl, rows_spelled format table.rows size (length table.rows) (omega (arith, small)) (omega (arith, is.size)) within is.targets, tt),
  ),
)

pub tree_spelled : (names : List (List ℕ)) (automaton : Automaton) → IsAutomaton automaton → All IsName names → length names ≤ most_generators → length names ≡ generators automaton.alphabet
    → AreSpelledFields (tree_of names automaton).fields
tree_spelled names automaton is each few counted = (
  word_is_name (codes "isFSA") refl,
  ((word_is_name (codes "true") refl, tt), tt),
  (
    word_is_name (codes "alphabet") refl,
    alphabet_spelled automaton.alphabet names each few small,
    (
      word_is_name (codes "states") refl,
      (
        word_is_name (codes "type") refl,
        string_bytes (codes "simple") refl,
        (word_is_name (codes "size") refl, short (length automaton.table.rows) (omega (arith, is.table.size)), tt),
      ),
      (
        word_is_name (codes "flags") refl,
        (
          string_bytes (codes "DFA") refl,
          (
            string_bytes (codes "minimized") refl,
            (
              string_bytes (codes "BFS") refl,
              (string_bytes (codes "accessible") refl, (string_bytes (codes "trim") refl, tt)),
            ),
          ),
        ),
        (
          word_is_name (codes "initial") refl,
          (short 1 (omega arith), tt),
          (
            word_is_name (codes "accepting") refl,
            accepting_by IsSpelledValue automaton.table.accepting (short 1 (omega arith), short (length automaton.table.accepting) (omega (arith, marks, is.table.size)))
                (accepting_spelled 1 automaton.table.accepting (omega (arith, marks, is.table.size))),
            (word_is_name (codes "table") refl, table_spelled (format_of automaton.alphabet) (symbols automaton.alphabet) automaton.table is.table is.symbols small, tt),
          ),
        ),
      ),
    ),
  ),
)
  where
    small : symbols automaton.alphabet ≤ 1002000
    small = few_symbols automaton.alphabet (omega (arith, few, counted))

    marks : length automaton.table.accepting ≡ length automaton.table.rows
    marks = is.table.one_answer_each

pub title_spelled : (names : List (List ℕ)) (automaton : Automaton) → IsName (tree_of names automaton).title
title_spelled names automaton = word_is_name (codes "_FSA") refl
