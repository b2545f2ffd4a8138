-- The tree of a canonical automaton says it.
use Rattle.std.proofs.Common.{◌≡◌, ◌≢◌, ◌↔◌, ℕ, zero, suc, ◌+◌, ◌<◌, ◌≤◌, ◌⊎◌, inl, inr, Bool, true, false, IsTrue, ◌&&◌, nat_le, if◌then◌else◌, ℤ, pos, ◌≤ℤ◌, List, [], ◌∷◌, ◌++◌, map, length, get_or, Contains, Option, Some, refl, sym, ap, subst, ◌∙◌, arith}
use Rattle.std.specs.List.{All, list_all}
use Rattle.std.proofs.lemmas.Int.{ints}
use Rattle.std.specs.Option.{unwrap_or}
use Rattle.std.proofs.lemmas.Bool.{cases_eq, cases_lt}
use Rattle.std.proofs.lemmas.List.Elements.{All-nil, All-cons, All-head, All-tail}
use Rattle.kb_record.specs.Tree.{Value, string_value, record_value, list_value, range_value}
use Rattle.kb_fields.specs.Fields.{HasFieldTwice}
use Rattle.kb_fields.specs.Generators.{AreGeneratorNames}
use Rattle.kb_fsa.specs.declared.alphabet.Alphabet.{Alphabet}
use Rattle.kb_fsa.specs.declared.alphabet.Alphabet.TheVariants.{Plain, Pair}
use Rattle.kb_fsa.specs.Table.{Moves, IsRow, Table, IsTable, HasSymbols, target, step, state_after, AcceptsFrom, moves_of}
use Rattle.kb_fsa.specs.Language.{Automaton, IsAutomaton, generators, symbols}
use Rattle.kb_fsa.specs.Padding.{IsPadded}
use Rattle.kb_fsa.proofs.Lookups.{lookup_here, lookup_there, lookup_nowhere, target_none, target_some, target_within, All-moves_of, IsRow-moves_of, accepting_positive, after-append}
use Rattle.kb_fsa.proofs.PairSymbolLaws.{square}
use Rattle.kb_fsafile.specs.Kinds.{IsNumbers, StandsFor, IsNumberOf, numbered_from}
use Rattle.kb_padding.specs.Misplaced.{IsDropped, IsMisplaced, IsWithoutMisplaced, IsCleaned}
use Rattle.kb_fsafile.specs.Holds.{HoldsNames, HoldsAlphabet, HoldsInitial, HoldsAccepting, HoldsEntries, HoldsRow, HoldsRows, HoldsMoves, HoldsTable, HoldsAutomaton, IsPairSize, format_name}
use Rattle.kb_fsafile.specs.Reading.{AreStates}
use Rattle.kb_fsaprint.specs.Printed.{numbers_value, targets_from, list_of_moves, row_places, rows_places, format_of, format_name as printed_name, accepting_from, accepting_value, names_fields, alphabet_fields, states_fields, table_fields, tree_of}
use Rattle.kb_fsaprint.specs.declared.format.RowFormat.{RowFormat}
use Rattle.kb_fsaprint.specs.declared.format.RowFormat.TheVariants as printed
use Rattle.kb_fsafile.specs.declared.format.Format.{Format}
use Rattle.kb_fsafile.specs.declared.format.Format.TheVariants.{Dense, Sparse}
use Rattle.kb_fsafile.proofs.NumberLemmas.{IsPos, listed_stands}
use Rattle.kb_padding.proofs.PaddedTexts.{in_place_from_padded}
use Rattle.kb_fsafile.proofs.UniqueAutomaton.{pos_same}

-- ---- the alphabet

letters_written : (names : List (List ℕ)) → AreGeneratorNames names → HoldsNames (names_fields names) names
letters_written names free = record { type = refl; listed = refl; free = free; counted = refl; format = refl }

pair_size : (n count : ℕ) → count ≡ n → IsPairSize count (symbols (Pair n))
pair_size n count same =
    let whole = square n in
    let P : ℕ → Type 0 = λ c. IsPairSize c (symbols (Pair n)) in
    subst P (sym same) (inl (omega (arith, whole)))

alphabet_written : (alphabet : Alphabet) (names : List (List ℕ)) → AreGeneratorNames names → length names ≡ generators alphabet
    → HoldsAlphabet (alphabet_fields alphabet names) names alphabet (symbols alphabet)
alphabet_written (Plain n) names free counted = HoldsAlphabet.plain (ap Plain (sym counted)) (sym counted) (letters_written names free)
alphabet_written (Pair n) names free counted = HoldsAlphabet.pairs (ap Pair (sym counted)) (record {
  type = refl;
  arity = refl;
  base = names_fields names;
  is_base = refl;
  named = letters_written names free;
  sized = refl;
  right_size = pair_size n (length names) counted;
})

-- ---- the states that accept

-- the number is that of a state that accepts
record IsMarkedAt (first : ℕ) (marks : List Bool) (state : ℕ) : Type 0 where
  pub place : ℕ
  pub same : state ≡ first + place
  pub within : place < length marks
  pub marked : IsTrue (get_or marks place false)

contains_later : (x y : ℕ) (xs : List ℕ) → Contains xs y → Contains (x ∷ xs) y
contains_later x y xs found = (suc found.0, omega (arith, found.1), found.2)

accepting_contained : (first : ℕ) (marks : List Bool) (place : ℕ) → IsTrue (get_or marks place false) → Contains (accepting_from first marks) (first + place)
accepting_contained first [] place marked = cc
accepting_contained first (true ∷ marks) zero marked = (0, omega arith, omega arith)
accepting_contained first (false ∷ marks) zero marked = cc
accepting_contained first (true ∷ marks) (suc place) marked =
    let P : ℕ → Type 0 = λ n. Contains (first ∷ accepting_from (suc first) marks) n in
    subst P (omega arith) (contains_later first (suc first + place) (accepting_from (suc first) marks) (accepting_contained (suc first) marks place marked))
accepting_contained first (false ∷ marks) (suc place) marked =
    let P : ℕ → Type 0 = λ n. Contains (accepting_from (suc first) marks) n in
    subst P (omega arith) (accepting_contained (suc first) marks place marked)

marked_later : (first : ℕ) (mark : Bool) (marks : List Bool) (state : ℕ) → IsMarkedAt (suc first) marks state → IsMarkedAt first (mark ∷ marks) state
marked_later first mark marks state at = record { place = suc at.place; same = at.same ∙ omega arith; within = omega (arith, at.within); marked = at.marked }

contained_accepting : (first : ℕ) (marks : List Bool) (k d : ℕ) → k < length (accepting_from first marks) → IsMarkedAt first marks (get_or (accepting_from first marks) k d)
contained_accepting first [] k d within = absurd (omega (arith, within))
contained_accepting first (true ∷ marks) zero d within = record { place = 0; same = omega arith; within = omega arith; marked = refl }
contained_accepting first (true ∷ marks) (suc k) d within =
    marked_later first true marks (get_or (accepting_from (suc first) marks) k d) (contained_accepting (suc first) marks k d (omega (arith, within)))
contained_accepting first (false ∷ marks) k d within =
    marked_later first false marks (get_or (accepting_from (suc first) marks) k d) (contained_accepting (suc first) marks k d within)

accepting_states : (marks : List Bool) → AreStates (length marks) (map pos (accepting_from 1 marks)) (accepting_from 1 marks)
accepting_states marks = record {
  same = refl;
  within = λ k d inside. let at = contained_accepting 1 marks k d inside in (omega (arith, at.same), omega (arith, at.same, at.within));
}

-- what the value has to say of the states
record SaysAccepting (marks : List Bool) (value : Value) : Type 0 where
  pub kind : IsNumbers value
  pub within : (z : ℤ) → StandsFor value z → IsNumberOf (length marks) z
  pub each : (place : ℕ) → place < length marks → IsTrue (get_or marks place false) ↔ StandsFor value (pos (suc place))

list_says : (marks : List Bool) → SaysAccepting marks (numbers_value (accepting_from 1 marks))
list_says marks = record {
  kind = (map pos (accepting_from 1 marks), refl);
  within = λ z stands. number z ((stand z).0 stands);
  each = λ place inside. (λ marked. (stand (pos (suc place))).1 (is_state place marked), λ stands. mark place ((stand (pos (suc place))).0 stands));
}
  where
    stand : (z : ℤ) → StandsFor (numbers_value (accepting_from 1 marks)) z ↔ IsPos (accepting_from 1 marks) z
    stand z = listed_stands (length marks) (map pos (accepting_from 1 marks)) (accepting_from 1 marks) (accepting_states marks) z

    at : (state : ℕ) → Contains (accepting_from 1 marks) state → IsMarkedAt 1 marks state
    at state found =
        let P : ℕ → Type 0 = λ s. IsMarkedAt 1 marks s in
        subst P found.2 (contained_accepting 1 marks found.0 state found.1)

    number : (z : ℤ) → IsPos (accepting_from 1 marks) z → IsNumberOf (length marks) z
    number z is =
        let m = at is.state is.contained in
        record { number = is.state; is_number = is.same; positive = omega (arith, m.same); within = omega (arith, m.same, m.within) }

    is_state : (place : ℕ) → IsTrue (get_or marks place false) → IsPos (accepting_from 1 marks) (pos (suc place))
    is_state place marked =
        let P : ℕ → Type 0 = λ s. Contains (accepting_from 1 marks) s in
        record { state = suc place; same = refl; contained = subst P (omega arith) (accepting_contained 1 marks place marked) }

    mark : (place : ℕ) → IsPos (accepting_from 1 marks) (pos (suc place)) → IsTrue (get_or marks place false)
    mark place is =
        let m = at is.state is.contained in
        let state : suc place ≡ is.state = pos_same is.same in
        let same : m.place ≡ place = omega (arith, m.same, state) in
        let P : ℕ → Type 0 = λ p. IsTrue (get_or marks p false) in
        subst P same m.marked

all_marked : (marks : List Bool) → list_all (λ (accepts : Bool). accepts) marks ≡ true → (place : ℕ) → place < length marks → IsTrue (get_or marks place false)
all_marked [] all place within = absurd (omega (arith, within))
all_marked (true ∷ marks) all zero within = refl
all_marked (true ∷ marks) all (suc place) within = all_marked marks all place (omega (arith, within))
all_marked (false ∷ marks) all place within = cc

range_says : (marks : List Bool) → list_all (λ (accepts : Bool). accepts) marks ≡ true → SaysAccepting marks (range_value (pos 1) (pos (length marks)))
range_says marks all = record {
  kind = tt;
  within = λ z stands. number z stands.0 stands.1;
  each = λ place inside. (λ marked. (omega (arith, ints), omega (arith, ints, inside)), λ stands. all_marked marks all place inside);
}
  where
    number : (z : ℤ) → pos 1 ≤ℤ z → z ≤ℤ pos (length marks) → IsNumberOf (length marks) z
    number (pos n) low high = record { number = n; is_number = refl; positive = omega (arith, ints, low); within = omega (arith, ints, high) }
    number z low high = absurd (omega (arith, ints, low))

accepting_says : (marks : List Bool) → SaysAccepting marks (accepting_value marks)
accepting_says marks = go (list_all (λ (accepts : Bool). accepts) marks) refl (nat_le 2 (length marks))
  where
    go : (b : Bool) → list_all (λ (accepts : Bool). accepts) marks ≡ b → (c : Bool)
        → SaysAccepting marks (if b && c then range_value (pos 1) (pos (length marks)) else numbers_value (accepting_from 1 marks))
    go true all true = range_says marks all
    go true all false = list_says marks
    go false all c = list_says marks

-- ---- rows

targets_length : (row : Moves) (symbol columns : ℕ) → length (targets_from row symbol columns) ≡ columns
targets_length row symbol zero = refl
targets_length row symbol (suc columns) = ap suc (targets_length row (suc symbol) columns)

targets_bounded : (count : ℕ) (row : Moves) (symbol columns : ℕ) → All (λ (move : ℕ × ℕ). move.1 ≤ count) row
    → All (λ (e : ℕ × ℕ). e.1 ≤ count) (numbered_from symbol (targets_from row symbol columns))
targets_bounded count row symbol zero within = All-nil (λ (e : ℕ × ℕ). e.1 ≤ count)
targets_bounded count row symbol (suc columns) within =
    All-cons (λ (e : ℕ × ℕ). e.1 ≤ count) (symbol, target row symbol) (numbered_from (suc symbol) (targets_from row (suc symbol) columns))
    (target_within row symbol count within) (targets_bounded count row (suc symbol) columns within)

target_there : (entry : ℕ × ℕ) (rest : Moves) (symbol : ℕ) → entry.0 ≢ symbol → target (entry ∷ rest) symbol ≡ target rest symbol
target_there entry rest symbol differ = ap (λ (o : Option ℕ). unwrap_or o 0) (lookup_there entry rest symbol differ)

-- by a symbol of the columns the entries lead where the row does
target_numbered : (row : Moves) (first columns symbol : ℕ) → first ≤ symbol → symbol < first + columns
    → target (numbered_from first (targets_from row first columns)) symbol ≡ target row symbol
target_numbered row first zero symbol low high = absurd (omega (arith, low, high))
target_numbered row first (suc columns) symbol low high = go (cases_eq first symbol) (target_numbered row (suc first) columns symbol)
  where
    rest : Moves
    rest = numbered_from (suc first) (targets_from row (suc first) columns)

    go : (first ≡ symbol) ⊎ (first ≡ symbol → ⊥) → (suc first ≤ symbol → symbol < suc first + columns → target (numbered_from (suc first) (targets_from row (suc first) columns)) symbol ≡ target row symbol)
        → target ((first, target row first) ∷ numbered_from (suc first) (targets_from row (suc first) columns)) symbol ≡ target row symbol
    go (inl same) later =
        target_some ((first, target row first) ∷ rest) symbol (target row first) (lookup_here (first, target row first) rest symbol same) ∙ ap (λ (s : ℕ). target row s) same
    go (inr differ) later = target_there (first, target row first) rest symbol differ ∙ later (omega (arith, low, differ)) (omega (arith, high))

-- by another symbol there is no entry
target_outside : (row : Moves) (first columns symbol : ℕ) → (symbol < first) ⊎ (first + columns ≤ symbol) → target (numbered_from first (targets_from row first columns)) symbol ≡ 0
target_outside row first zero symbol outside = refl
target_outside row first (suc columns) symbol (inl below) =
    target_there (first, target row first) (numbered_from (suc first) (targets_from row (suc first) columns)) symbol (λ same. omega (arith, same, below))
    ∙ target_outside row (suc first) columns symbol (inl (omega (arith, below)))
target_outside row first (suc columns) symbol (inr above) =
    target_there (first, target row first) (numbered_from (suc first) (targets_from row (suc first) columns)) symbol (λ same. omega (arith, same, above))
    ∙ target_outside row (suc first) columns symbol (inr (omega (arith, above)))

-- a row has no move by a symbol that none of its moves has
no_target : (row : Moves) (size symbol : ℕ) → IsRow row → All (λ (move : ℕ × ℕ). move.0 ≤ size) row → (symbol < 1) ⊎ (size < symbol) → target row symbol ≡ 0
no_target row size symbol is within outside = target_none row symbol (lookup_nowhere row symbol (λ k d inside same.
    let positive = (is.numbers k d inside).0 in let small = within k d inside in
    elim outside [
      | inl below ↦ omega (arith, positive, same, below)
      | inr above ↦ omega (arith, small, same, above)
    ]))

dense_row_written : (size count : ℕ) (row : Moves) → IsRow row → All (λ (move : ℕ × ℕ). move.1 ≤ count) row → All (λ (move : ℕ × ℕ). move.0 ≤ size) row
    → HoldsRow size count Dense (numbers_value (targets_from row 1 size)) row
dense_row_written size count row is targets within = record {
  entries = numbered_from 1 (targets_from row 1 size);
  holds = HoldsEntries.dense (targets_from row 1 size) refl (targets_length row 1 size) refl;
  targets = targets_bounded count row 1 size targets;
  is_row = is;
  same = λ symbol. at symbol (cases_lt symbol 1) (cases_lt size symbol);
}
  where
    at : (symbol : ℕ) → (symbol < 1) ⊎ (1 ≤ symbol) → (size < symbol) ⊎ (symbol ≤ size) → target row symbol ≡ target (numbered_from 1 (targets_from row 1 size)) symbol
    at symbol (inl below) side = no_target row size symbol is within (inl below) ∙ sym (target_outside row 1 size symbol (inl below))
    at symbol (inr low) (inl above) = no_target row size symbol is within (inr above) ∙ sym (target_outside row 1 size symbol (inr (omega (arith, above))))
    at symbol (inr low) (inr high) = sym (target_numbered row 1 size symbol low (omega (arith, high)))

sparse_row_written : (size count : ℕ) (row : Moves) → IsRow row → All (λ (move : ℕ × ℕ). move.1 ≤ count) row → All (λ (move : ℕ × ℕ). move.0 ≤ size) row
    → HoldsRow size count Sparse (list_value (list_of_moves row)) row
sparse_row_written size count row is targets within = record {
  entries = row;
  holds = HoldsEntries.sparse refl (λ i j d before inside same. (let less = is.ascends i j d before inside in omega (arith, less, same)))
      (λ k d inside. ((is.numbers k d inside).0, within k d inside));
  targets = targets;
  is_row = is;
  same = λ symbol. refl;
}

-- the format as which printed rows are read
abbrev read_as : RowFormat → Format
read_as (printed.Dense size) = Dense
read_as printed.Sparse = Sparse

same_name : (format : RowFormat) → printed_name format ≡ format_name (read_as format)
same_name (printed.Dense size) = refl
same_name printed.Sparse = refl

-- the format is one for rows over so many symbols
abbrev IsFor : ℕ → RowFormat → Type 0
IsFor size (printed.Dense columns) = columns ≡ size
IsFor size printed.Sparse = Unit {0}

format_for : (alphabet : Alphabet) → IsFor (symbols alphabet) (format_of alphabet)
format_for alphabet = go (nat_le (generators alphabet) 126)
  where
    go : (few : Bool) → IsFor (symbols alphabet) (if few then printed.Dense (symbols alphabet) else printed.Sparse)
    go true = refl
    go false = tt

row_written : (format : RowFormat) (size count : ℕ) (row : Moves) → IsFor size format → IsRow row → All (λ (move : ℕ × ℕ). move.1 ≤ count) row
    → All (λ (move : ℕ × ℕ). move.0 ≤ size) row → HoldsRow size count (read_as format) (list_value (row_places format row)) row
row_written (printed.Dense columns) size count row for_them is targets within =
    let P : ℕ → Type 0 = λ n. HoldsRow size count Dense (numbers_value (targets_from row 1 n)) row in
    subst P (sym for_them) (dense_row_written size count row is targets within)
row_written printed.Sparse size count row for_them is targets within = sparse_row_written size count row is targets within

rows_written : (format : RowFormat) (size count : ℕ) (rows : List Moves) → IsFor size format → All IsRow rows → All (All (λ (move : ℕ × ℕ). move.1 ≤ count)) rows
    → All (All (λ (move : ℕ × ℕ). move.0 ≤ size)) rows → HoldsRows size count (read_as format) (rows_places format rows) rows
rows_written format size count [] for_them are targets within = refl
rows_written format size count (row ∷ rows) for_them are targets within =
    let T : Moves → Type 0 = λ r. All (λ (move : ℕ × ℕ). move.1 ≤ count) r in
    let S : Moves → Type 0 = λ r. All (λ (move : ℕ × ℕ). move.0 ≤ size) r in (
      row_written format size count row for_them (All-head IsRow row rows are) (All-head T row rows targets) (All-head S row rows within),
      rows_written format size count rows for_them (All-tail IsRow row rows are) (All-tail T row rows targets) (All-tail S row rows within),
    )

-- ---- the table

initial_written : (names : List (List ℕ)) (automaton : Automaton) → IsTable automaton.table → automaton.table.initial ≡ 1
    → HoldsInitial (tree_of names automaton).fields (length automaton.table.rows) automaton.table.initial
initial_written names automaton is first =
    let P : ℕ → Type 0 = λ state. HoldsInitial (tree_of names automaton).fields (length automaton.table.rows) state in
    subst P (sym first) (HoldsInitial.one refl (omega arith) (omega (arith, is.initial, first)))

accepting_written : (names : List (List ℕ)) (automaton : Automaton) → IsTable automaton.table
    → HoldsAccepting (tree_of names automaton).fields (length automaton.table.rows) automaton.table.accepting
accepting_written names automaton is = record {
  value = accepting_value automaton.table.accepting;
  holds = refl;
  kind = says.kind;
  within = λ z stands. let P : ℕ → Type 0 = λ count. IsNumberOf count z in subst P is.one_answer_each (says.within z stands);
  one_each = is.one_answer_each;
  each = λ place inside. says.each place (omega (arith, inside, is.one_answer_each));
}
  where
    says : SaysAccepting automaton.table.accepting (accepting_value automaton.table.accepting)
    says = accepting_says automaton.table.accepting

moves_written : (names : List (List ℕ)) (automaton : Automaton) → IsTable automaton.table → HasSymbols (symbols automaton.alphabet) automaton.table
    → HoldsMoves (tree_of names automaton).fields (symbols automaton.alphabet) automaton.table.rows
moves_written names automaton is within = record {
  table = table_fields (format_of automaton.alphabet) automaton.table.rows;
  is_record = refl;
  no_default = tt;
  format = read_as (format_of automaton.alphabet);
  named = ap (λ name. Some (string_value name)) (same_name (format_of automaton.alphabet));
  places = rows_places (format_of automaton.alphabet) automaton.table.rows;
  listed = refl;
  each = rows_written (format_of automaton.alphabet) (symbols automaton.alphabet) (length automaton.table.rows) automaton.table.rows
      (format_for automaton.alphabet) is.rows is.targets within;
}

-- the tree has no field twice
abbrev pub HasEachOnce : List (List ℕ) → Automaton → Type 0
HasEachOnce names automaton = (name : List ℕ) → ¬ HasFieldTwice (record_value (tree_of names automaton).fields) name

table_written : (names : List (List ℕ)) (automaton : Automaton) → HasEachOnce names automaton → IsAutomaton automaton → automaton.table.initial ≡ 1
    → AreGeneratorNames names → length names ≡ generators automaton.alphabet → HoldsTable (tree_of names automaton).fields names automaton.alphabet automaton.table
table_written names automaton once is first free counted = record {
  once = once;
  is_fsa = refl;
  letters = alphabet_fields automaton.alphabet names;
  is_record = refl;
  size = symbols automaton.alphabet;
  lettered = alphabet_written automaton.alphabet names free counted;
  states = record { states = states_fields (length automaton.table.rows); is_record = refl; type = refl; size = refl };
  initial = initial_written names automaton is.table first;
  accepting = accepting_written names automaton is.table;
  moves = moves_written names automaton is.table is.symbols;
}

-- ---- no move is misplaced

module _ (n : ℕ) (table : Table) (is : IsAutomaton (record { alphabet = Pair n; table = table })) where
  none_misplaced : (state symbol : ℕ) → IsMisplaced n table state symbol → ⊥
  none_misplaced state symbol misplaced =
      let more = misplaced.text ++ symbol ∷ [] in
      let next : state_after table more ≡ step table state symbol =
      after-append table table.initial misplaced.text (symbol ∷ []) ∙ ap (λ (s : ℕ). step table s symbol) misplaced.leads in
      let padded = is.texts more (λ none. misplaced.some (sym next ∙ none)) in
      in_place_from_padded n more padded misplaced.text symbol [] refl misplaced.out_of_place

  none_dropped : (state symbol : ℕ) → IsDropped n table state symbol → step table state symbol ≡ 0
  none_dropped state symbol (inl misplaced) = absurd (none_misplaced state symbol misplaced)
  none_dropped state symbol (inr paddings) =
      let whole = square n in
      let S : Moves → Type 0 = λ moves. All (λ (move : ℕ × ℕ). move.0 ≤ symbols (Pair n)) moves in
      let within = All-moves_of S table state (All-nil (λ (move : ℕ × ℕ). move.0 ≤ symbols (Pair n))) is.symbols in
      no_target (moves_of table state) (symbols (Pair n)) symbol (IsRow-moves_of table state is.table) within (inr (omega (arith, paddings, whole)))

  none_left_out : IsWithoutMisplaced n table table
  none_left_out = record {
    is_table = is.table;
    initial = refl;
    accepting = refl;
    size = refl;
    dropped = none_dropped;
    kept = λ state symbol stays. refl;
  }

  all_padded : (text : List ℕ) → AcceptsFrom table table.initial text → IsPadded n text
  all_padded text accepts =
      let positive = accepting_positive table (state_after table text) accepts in
      is.texts text (λ none. omega (arith, positive, none))

cleaned_written : (alphabet : Alphabet) (table : Table) → IsAutomaton (record { alphabet = alphabet; table = table }) → IsCleaned alphabet table table
cleaned_written (Plain n) table is = refl
cleaned_written (Pair n) table is = (none_left_out n table is, all_padded n table is)

pub automaton_written : (names : List (List ℕ)) (automaton : Automaton) → HasEachOnce names automaton → IsAutomaton automaton → automaton.table.initial ≡ 1
    → AreGeneratorNames names → length names ≡ generators automaton.alphabet → HoldsAutomaton (tree_of names automaton).fields names automaton
automaton_written names automaton once is first free counted = record {
  read = automaton.table;
  holds = table_written names automaton once is first free counted;
  cleaned = cleaned_written automaton.alphabet automaton.table is;
}
