-- The text of an automaton, piece by piece.
use Rattle.std.proofs.Common.{◌≡◌, ◌≢◌, ℕ, suc, ◌+◌, ◌<◌, ◌≤◌, Bool, true, false, nat_le, ◌&&◌, if◌then◌else◌, List, [], ◌∷◌, ◌++◌, length, get_or, drop, map, pos, refl, sym, ap, ◌∙◌, subst, arith, append_assoc, append-nil}
use Rattle.std.specs.Prelude.{codes}
use Rattle.std.specs.List.{list_all}
use Rattle.std.proofs.lemmas.Bool.{and_from, le-leb}
use Rattle.std.proofs.lemmas.Fmt.{decimal_digit}
use Rattle.std.proofs.lemmas.List.{drop_more}
use Rattle.kb_record.specs.Tree.{Value, range_value, string_value, record_value, list_value, Fields, no_fields, field}
use Rattle.kb_layout.specs.Layout.{indent, line_of, line_of_more_places, are_lists, lines_of_places, text_of_value, printed}
use Rattle.kb_layout.specs.Printing.{pieces, IsPrintedUpTo}
use Rattle.kb_layout.proofs.PrintedPieces.{pieces_go, pieces_end}
use Rattle.kb_fields.specs.Fields.{bare_name, list_of_names}
use Rattle.kb_layout.proofs.WrittenTexts.{joined, record_lines}
use Rattle.kb_fsa.specs.Table.{Moves, IsRow, IsSplit, target}
use Rattle.kb_fsa.proofs.RowSplits.{rest_of_split}
use Rattle.kb_fsafile.specs.Kinds.{count_value, list_of_numbers, entry_value}
use Rattle.kb_fsaprint.specs.Printed.{numbers_value, names_fields, states_fields, flags_value, targets_from, list_of_moves, row_places, rows_places, accepting_from, accepting_value}
use Rattle.kb_fsaprint.specs.Writing.{number_text, move_text, IsRowPrinted}
use Rattle.kb_fsaprint.specs.declared.format.RowFormat.{RowFormat}

-- ---- the numbers that each text has

one_text : number_text 1 ≡ codes "1"
one_text = decimal_digit 1 (omega arith)

two_text : number_text 2 ≡ codes "2"
two_text = decimal_digit 2 (omega arith)

-- ---- lists on one line

more_number_pieces : (numbers : List ℕ) → line_of_more_places (list_of_numbers (map pos numbers)) ≡ pieces number_text (codes ",") (codes ",") numbers
more_number_pieces [] = refl
more_number_pieces (n ∷ numbers) = ap (λ t. codes "," ++ (number_text n ++ t)) (more_number_pieces numbers)

pub number_pieces : (numbers : List ℕ) → codes "[" ++ (pieces number_text [] (codes ",") numbers ++ codes "]") ≡ line_of (numbers_value numbers)
number_pieces [] = refl
number_pieces (n ∷ numbers) = ap (λ t. codes "[" ++ ((number_text n ++ t) ++ codes "]")) (sym (more_number_pieces numbers))

-- a list of numbers is no table
pub numbers_text : (level : ℕ) (numbers : List ℕ) → text_of_value level (numbers_value numbers) ≡ line_of (numbers_value numbers)
numbers_text level [] = refl
numbers_text level (n ∷ numbers) = refl

-- the next piece, where the rest of the pieces is known
pub pieces_next : {A : Type 0} {text : A → List ℕ} {between ending : List ℕ} {x : A} {xs : List A} {whole old before now : List ℕ} (mid next : List ℕ)
    → IsPrintedUpTo text between ending (x ∷ xs) whole old 0 before now → mid ≡ now ++ before → next ≡ mid ++ text x
    → IsPrintedUpTo text between ending xs whole old 0 between next
pieces_next {text} {between} {ending} {x} {xs} {whole} {old} {before} {now} mid next printed e f =
    let further = pieces_go text between ending (x ∷ xs) whole old before now 0 x mid next printed (omega arith) refl e f in
    record { done = further.done; so_far = further.so_far; to_come = further.to_come }

-- ---- the states that accept

pub accepting_next : (accepting : List Bool) (place : ℕ) {whole old before now : List ℕ} (mid next : List ℕ) → get_or accepting place false ≡ true
    → place < length accepting
    → IsPrintedUpTo number_text (codes ",") (codes "]") (accepting_from (suc place) (drop place accepting)) whole old 0 before now
    → mid ≡ now ++ before → next ≡ mid ++ number_text (place + 1)
    → IsPrintedUpTo number_text (codes ",") (codes "]") (accepting_from (suc (place + 1)) (drop (place + 1) accepting)) whole old 0 (codes ",") next
accepting_next accepting place {whole} {old} {before} {now} mid next accepts within printed e f =
    let split : drop place accepting ≡ true ∷ drop (place + 1) accepting =
    drop_more accepting place false within ∙ ap (λ b. b ∷ drop (place + 1) accepting) accepts in
    let number : suc place ≡ place + 1 = omega arith in
    let P : List ℕ → Type 0 = λ numbers. IsPrintedUpTo number_text (codes ",") (codes "]") numbers whole old 0 before now in
    let here : accepting_from (suc place) (drop place accepting) ≡ (place + 1) ∷ accepting_from (suc (place + 1)) (drop (place + 1) accepting) =
    ap (accepting_from (suc place)) split ∙ ap (λ s. s ∷ accepting_from (suc s) (drop (place + 1) accepting)) number in
    pieces_next mid next (subst P here printed) e f

pub accepting_passed : (accepting : List Bool) (place : ℕ) {whole old before now : List ℕ} → get_or accepting place false ≡ false → place < length accepting
    → IsPrintedUpTo number_text (codes ",") (codes "]") (accepting_from (suc place) (drop place accepting)) whole old 0 before now
    → IsPrintedUpTo number_text (codes ",") (codes "]") (accepting_from (suc (place + 1)) (drop (place + 1) accepting)) whole old 0 before now
accepting_passed accepting place {whole} {old} {before} {now} rejects within printed =
    let split : drop place accepting ≡ false ∷ drop (place + 1) accepting =
    drop_more accepting place false within ∙ ap (λ b. b ∷ drop (place + 1) accepting) rejects in
    let number : suc place ≡ place + 1 = omega arith in
    let P : List ℕ → Type 0 = λ numbers. IsPrintedUpTo number_text (codes ",") (codes "]") numbers whole old 0 before now in
    subst P (ap (accepting_from (suc place)) split ∙ ap (λ s. accepting_from (suc s) (drop (place + 1) accepting)) number) printed

-- ---- rows

pub row_begun : (row : Moves) (symbols : ℕ) (whole old before now : List ℕ) → IsRow row
    → IsPrintedUpTo number_text (codes ",") (codes "]") (targets_from row 1 symbols) whole old 0 before now → IsRowPrinted row 1 symbols row whole old before now
row_begun row symbols whole old before now is printed = record {
  printed = printed;
  is_row = is;
  low = λ k d h. (let positive = (is.numbers k d h).0 in omega arith);
  same = λ later more. refl;
}

pub row_next : {row left after_it : Moves} {symbol to columns : ℕ} {whole old before now : List ℕ} (mid next : List ℕ)
    → IsRowPrinted row symbol (suc columns) left whole old before now → IsSplit left symbol to after_it
    → mid ≡ now ++ before → next ≡ mid ++ number_text to
    → IsRowPrinted row (symbol + 1) columns after_it whole old (codes ",") next
row_next {row} {left} {after_it} {symbol} {to} {columns} {whole} {old} {before} {now} mid next printed split e f =
    let rest = rest_of_split printed.is_row split in
    let is : target row symbol ≡ to = sym (printed.same symbol (omega arith)) ∙ rest.here in
    let up : suc symbol ≡ symbol + 1 = omega arith in
    record {
      printed =
          let P : ℕ → Type 0 = λ s. IsPrintedUpTo number_text (codes ",") (codes "]") (targets_from row s columns) whole old 0 (codes ",") next in
          subst P up (pieces_next mid next printed.printed e (f ∙ ap (λ n. mid ++ number_text n) (sym is)));
      is_row = rest.is_row;
      low = λ k d h. (let more = rest.above k d h in omega arith);
      same = λ later more. sym (rest.others later (λ e. omega arith)) ∙ printed.same later (omega arith);
    }

-- a move's list on one line
move_line : (move : ℕ × ℕ) → line_of (entry_value (pos move.0, pos move.1)) ≡ move_text move
move_line move =
    let symbol = number_text move.0 in
    let to = number_text move.1 in
    ap (λ t. codes "[" ++ t)
    (append_assoc symbol (codes "," ++ (to ++ [])) (codes "]") ∙ ap (λ t. symbol ++ (codes "," ++ (t ++ codes "]"))) (append-nil to))

more_move_pieces : (row : Moves) → line_of_more_places (list_of_moves row) ≡ pieces move_text (codes ",") (codes ",") row
more_move_pieces [] = refl
more_move_pieces (move ∷ row) =
    ap (λ t. codes "," ++ (t ++ line_of_more_places (list_of_moves row))) (move_line move)
    ∙ ap (λ t. codes "," ++ (move_text move ++ t)) (more_move_pieces row)

pub move_pieces : (row : Moves) → codes "[" ++ (pieces move_text [] (codes ",") row ++ codes "]") ≡ line_of (list_value (list_of_moves row))
move_pieces [] = refl
move_pieces (move ∷ row) =
    ap (λ t. codes "[" ++ ((move_text move ++ t) ++ codes "]")) (sym (more_move_pieces row))
    ∙ ap (λ t. codes "[" ++ ((t ++ line_of_more_places (list_of_moves row)) ++ codes "]")) (sym (move_line move))

-- the move on its way, piece by piece
abbrev pub move_texts : ℕ → ℕ → List (List ℕ)
move_texts symbol to = codes "[" ∷ number_text symbol ∷ codes "," ∷ number_text to ∷ codes "]" ∷ []

-- a row on a line of its own
abbrev pub row_text : RowFormat → Moves → List ℕ
row_text format row = indent 3 ++ line_of (list_value (row_places format row))

rows_are_lists : (format : RowFormat) (rows : List Moves) → are_lists (rows_places format rows) ≡ true
rows_are_lists format [] = refl
rows_are_lists format (row ∷ rows) = rows_are_lists format rows

some_row_lines : (format : RowFormat) (row : Moves) (rows : List Moves) (after_them : List ℕ)
    → row_text format row ++ (pieces (row_text format) (codes ",\n") (codes ",\n") rows ++ (codes "\n" ++ after_them))
    ≡ lines_of_places 3 (rows_places format (row ∷ rows)) ++ after_them
some_row_lines format row [] after_them = simp append_assoc
some_row_lines format row (next ∷ rows) after_them =
    let more = some_row_lines format next rows after_them in
    let here : row_text format row ++ (codes ",\n" ++ (lines_of_places 3 (rows_places format (next ∷ rows)) ++ after_them))
    ≡ lines_of_places 3 (rows_places format (row ∷ (next ∷ rows))) ++ after_them = simp append_assoc in
    ap (λ t. row_text format row ++ (codes ",\n" ++ t))
    (append_assoc (row_text format next) (pieces (row_text format) (codes ",\n") (codes ",\n") rows) (codes "\n" ++ after_them) ∙ more)
    ∙ here

pub row_lines : (format : RowFormat) (rows : List Moves) → rows ≢ []
    → codes "[" ++ (pieces (row_text format) (codes "\n") (codes ",\n") rows ++ codes "\n    ]") ≡ text_of_value 2 (list_value (rows_places format rows))
row_lines format [] some = absurd (some refl)
row_lines format (row ∷ rows) some =
    ap (λ t. codes "[\n" ++ t)
    (append_assoc (row_text format row) (pieces (row_text format) (codes ",\n") (codes ",\n") rows) (codes "\n    ]")
    ∙ some_row_lines format row rows (codes "    ]"))
    ∙ sym (rw (rows_are_lists format rows) (simp append_assoc))

-- behind the last piece, where none is left
pub pieces_done : {A : Type 0} {text : A → List ℕ} {between ending : List ℕ} {xs : List A} {whole old before now : List ℕ} (mid : List ℕ)
    → IsPrintedUpTo text between ending xs whole old 0 before now → xs ≡ [] → mid ≡ now ++ ending → mid ≡ old ++ whole
pieces_done {text} {between} {ending} {xs} {whole} {old} {before} {now} mid printed none e =
    pieces_end text between ending xs whole old before now 0 mid printed (let empty = ap length none in omega arith) e

-- ---- records

-- the record of the names, whose fields stand at the level inside
abbrev pub names_texts : ℕ → ℕ → List (List ℕ) → List (List ℕ)
names_texts level inside names =
    codes "rec(\n" ∷ (indent inside ++ codes "type := \"identifiers\",\n") ∷ (indent inside ++ codes "size := ") ∷ number_text (length names)
    ∷ codes ",\n" ∷ (indent inside ++ codes "format := \"dense\",\n") ∷ (indent inside ++ codes "names := ")
    ∷ line_of (list_value (list_of_names names)) ∷ codes "\n" ∷ (indent level ++ codes ")") ∷ []

names_lines : (level : ℕ) (names : List (List ℕ)) → joined (names_texts level (suc level) names) ≡ text_of_value level (record_value (names_fields names))
names_lines level [] = simp append_assoc
names_lines level (name ∷ names) = simp append_assoc

pub names_record : (level inside : ℕ) (names : List (List ℕ)) → inside ≡ suc level
    → joined (names_texts level inside names) ≡ text_of_value level (record_value (names_fields names))
names_record level inside names is = ap (λ k. joined (names_texts level k names)) is ∙ names_lines level names

-- the record of an alphabet of pairs, at level 1
abbrev pub pairs_texts : ℕ → Value → List (List ℕ)
pairs_texts size base =
    codes "rec(\n    type := \"product\",\n    size := " ∷ number_text size
    ∷ codes ",\n    arity := 2,\n    padding := _,\n    base := " ∷ text_of_value 2 base ∷ codes "\n  )" ∷ []

pub pairs_record : (size : ℕ) (base : Value)
    → joined (pairs_texts size base)
    ≡ text_of_value 1 (record_value
    (field (codes "type") (string_value (codes "product"))
    (field (codes "size") (count_value size)
    (field (codes "arity") (count_value 2)
    (field (codes "padding") (bare_name (codes "_"))
    (field (codes "base") base no_fields))))))
pairs_record size base =
    let behind = codes ",\n    padding := _,\n    base := " ++ (text_of_value 2 base ++ codes "\n  )") in
    ap (λ t. codes "rec(\n    type := \"product\",\n    size := " ++ (number_text size ++ (codes ",\n    arity := " ++ (t ++ behind)))) (sym two_text)
    ∙ sym (record_lines 1 (
    field (codes "type") (string_value (codes "product"))
    (field (codes "size") (count_value size)
    (field (codes "arity") (count_value 2)
    (field (codes "padding") (bare_name (codes "_"))
    (field (codes "base") base no_fields))))) []) ∙ append-nil _

-- the record of a table
abbrev pub table_texts : List ℕ → ℕ → Value → List (List ℕ)
table_texts format count transitions =
    codes "rec(\n    format := \"" ∷ format ∷ codes "\",\n    numTransitions := " ∷ number_text count ∷ codes ",\n    transitions := "
    ∷ text_of_value 2 transitions ∷ codes "\n  )" ∷ []

pub table_record : (format : List ℕ) (count : ℕ) (transitions : Value)
    → joined (table_texts format count transitions)
    ≡ text_of_value 1 (record_value
    (field (codes "format") (string_value format)
    (field (codes "numTransitions") (count_value count)
    (field (codes "transitions") transitions no_fields))))
table_record format count transitions =
    let behind = codes ",\n    numTransitions := " ++ (number_text count ++ (codes ",\n    transitions := " ++ (text_of_value 2 transitions ++ codes "\n  )"))) in
    ap (λ t. codes "rec(\n    format := \"" ++ t) (sym (append_assoc format (codes "\"") behind))
    ∙ sym (record_lines 1 (
    field (codes "format") (string_value format)
    (field (codes "numTransitions") (count_value count)
    (field (codes "transitions") transitions no_fields))) [])
    ∙ append-nil _

-- the whole text
abbrev pub whole_texts : Value → Value → Value → ℕ → List (List ℕ)
whole_texts alphabet accepting table count =
    codes "_FSA := rec(\n  isFSA := true,\n  alphabet := " ∷ text_of_value 1 alphabet
    ∷ codes ",\n  states := rec(\n    type := \"simple\",\n    size := " ∷ number_text count
    ∷ codes "\n  ),\n  flags := [\"DFA\",\"minimized\",\"BFS\",\"accessible\",\"trim\"],\n  initial := [1],\n  accepting := "
    ∷ text_of_value 1 accepting ∷ codes ",\n  table := " ∷ text_of_value 1 table ∷ codes "\n);\n" ∷ []

-- its fields
abbrev whole_fields : Value → Value → Value → ℕ → Fields
whole_fields alphabet accepting table count =
    field (codes "isFSA") (bare_name (codes "true"))
    (field (codes "alphabet") alphabet
    (field (codes "states") (record_value (states_fields count))
    (field (codes "flags") flags_value
    (field (codes "initial") (numbers_value (1 ∷ []))
    (field (codes "accepting") accepting
    (field (codes "table") table no_fields))))))

initial_line : (after_it : List ℕ) → text_of_value 1 (numbers_value (1 ∷ [])) ++ after_it ≡ codes "[1]" ++ after_it
initial_line after_it = ap (λ t. codes "[" ++ (((t ++ []) ++ codes "]") ++ after_it)) one_text

pub whole_text : (alphabet accepting table : Value) (count : ℕ)
    → joined (whole_texts alphabet accepting table count)
    ≡ printed (record {
      title = codes "_FSA";
      fields =
          field (codes "isFSA") (bare_name (codes "true"))
          (field (codes "alphabet") alphabet
          (field (codes "states") (record_value (states_fields count))
          (field (codes "flags") flags_value
          (field (codes "initial") (numbers_value (1 ∷ []))
          (field (codes "accepting") accepting
          (field (codes "table") table no_fields))))));
    })
whole_text alphabet accepting table count =
    let end = codes ",\n  accepting := " ++ (text_of_value 1 accepting ++ (codes ",\n  table := " ++ (text_of_value 1 table ++ codes "\n);\n"))) in
    let flags = codes ",\n  flags := [\"DFA\",\"minimized\",\"BFS\",\"accessible\",\"trim\"],\n  initial := " in
    let up_to_states = λ (t : List ℕ).
    codes "_FSA := rec(\n  isFSA := true,\n  alphabet := " ++ (text_of_value 1 alphabet ++ (codes ",\n  states := " ++ t)) in
    let up_to_initial = λ (t : List ℕ). codes "rec(\n    type := \"simple\",\n    size := " ++ (number_text count ++ (codes "\n  )" ++ (flags ++ t))) in
    sym (
    ap (λ t. codes "_FSA := " ++ t) (record_lines 0 (whole_fields alphabet accepting table count) (codes ";\n"))
    ∙ ap up_to_states (record_lines 1 (states_fields count) (flags ++ (text_of_value 1 (numbers_value (1 ∷ [])) ++ end)) ∙ ap up_to_initial (initial_line end))
    )

-- ---- the states that accept, as a range or as a list

abbrev pub range_texts : ℕ → List (List ℕ)
range_texts count = codes "[1.." ∷ number_text count ∷ codes "]" ∷ []

accepting_as : Bool → List Bool → List ℕ
accepting_as ranged accepting =
    text_of_value 1 (if ranged then range_value (pos 1) (pos (length accepting)) else numbers_value (accepting_from 1 accepting))

pub accepting_range : (accepting : List Bool) → list_all (λ accepts. accepts) accepting ≡ true → 2 ≤ length accepting
    → joined (range_texts (length accepting)) ≡ text_of_value 1 (accepting_value accepting)
unfolding accepting_as
accepting_range accepting all some =
    let test = and_from (list_all (λ accepts. accepts) accepting) (nat_le 2 (length accepting)) all (le-leb 2 (length accepting) some) in
    let count = number_text (length accepting) in
    ap (λ t. codes "[" ++ (((t ++ codes "..") ++ count) ++ codes "]")) (sym one_text) ∙ sym (ap (λ b. accepting_as b accepting) test)

pub accepting_list : (accepting : List Bool) → (list_all (λ accepts. accepts) accepting && nat_le 2 (length accepting)) ≡ false
    → line_of (numbers_value (accepting_from 1 accepting)) ≡ text_of_value 1 (accepting_value accepting)
unfolding accepting_as
accepting_list accepting test = sym (ap (λ b. accepting_as b accepting) test ∙ numbers_text 1 (accepting_from 1 accepting))
