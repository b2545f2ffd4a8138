-- A text's fields say one automaton.
use Rattle.std.proofs.Common.{◌≡◌, ℕ, suc, ◌<◌, Bool, true, false, IsTrue, ℤ, pos, List, [], ◌∷◌, map, length, get_or, Option, Some, ◌⊎◌, inl, inr, refl, sym, ap, subst, ◌∙◌, arith}
use Rattle.std.specs.Prelude.{codes}
use Rattle.std.proofs.lemmas.Bool.{cases_eq}
use Rattle.std.proofs.lemmas.List.{same_lists, get_or_default}
use Rattle.kb_record.specs.Tree.{Value, string_value, record_value, list_value, Fields, Places, no_places, place, empty_place}
use Rattle.kb_fields.specs.Fields.{value_of}
use Rattle.kb_fields.proofs.ListingLemmas.{places_of-injective, list_same, one_value, one_field_of_names}
use Rattle.kb_fsa.specs.declared.alphabet.Alphabet.{Alphabet}
use Rattle.kb_fsa.specs.declared.alphabet.Alphabet.TheVariants.{Plain, Pair}
use Rattle.kb_fsa.specs.Table.{Moves, target, Table, moves_of, step}
use Rattle.kb_fsa.specs.Language.{Automaton}
use Rattle.kb_fsa.proofs.Lookups.{same_from_targets, IsRow-moves_of}
use Rattle.kb_fsafile.specs.Kinds.{count_value, list_of_numbers, list_of_entries, entry_value, StandsFor, numbered_from}
use Rattle.kb_padding.specs.Misplaced.{IsWithoutMisplaced, IsCleaned}
use Rattle.kb_fsafile.specs.Holds.{HoldsRecord, HoldsString, HoldsCount, HoldsNames, HoldsPairs, HoldsAlphabet, HoldsStates, HoldsInitial, HoldsAccepting, HoldsEntries, HoldsRow, HoldsRows, HoldsMoves, HoldsTable, HoldsAutomaton, format_name}
use Rattle.kb_fsafile.specs.declared.format.Format.{Format}
use Rattle.kb_fsafile.specs.declared.format.Format.TheVariants.{Dense, Sparse}
use Rattle.kb_fsafile.proofs.KindLemmas.{list_of_entries-places_of}
use Rattle.kb_fields.proofs.NumberLemmas.{one_list_of_numbers}

-- ---- values of fields

pub record_same : {a b : Fields} → record_value a ≡ record_value b → a ≡ b
record_same e = cc

pub string_same : {a b : List ℕ} → string_value a ≡ string_value b → a ≡ b
string_same e = cc

pub count_same : {a b : ℕ} → count_value a ≡ count_value b → a ≡ b
count_same e = cc

pub one_record : (given : Fields) (name : List ℕ) (a b : Fields) → HoldsRecord given name a → HoldsRecord given name b → a ≡ b
one_record given name a b h k = record_same (one_value given name _ _ h k)

pub one_string : (given : Fields) (name a b : List ℕ) → HoldsString given name a → HoldsString given name b → a ≡ b
one_string given name a b h k = string_same (one_value given name _ _ h k)

pub one_count : (given : Fields) (name : List ℕ) (a b : ℕ) → HoldsCount given name a → HoldsCount given name b → a ≡ b
one_count given name a b h k = count_same (one_value given name _ _ h k)

pub one_list : (given : Fields) (name : List ℕ) (a b : Places) → value_of given name ≡ Some (list_value a) → value_of given name ≡ Some (list_value b) → a ≡ b
one_list given name a b h k = list_same (one_value given name _ _ h k)

-- ---- the alphabet

pub identifiers_or_product : codes "identifiers" ≡ codes "product" → ⊥
identifiers_or_product e = let lengths : 11 ≡ 7 = ap length e in omega (arith, lengths)

pub one_list_of_letters : (letters : Fields) (names others : List (List ℕ)) → HoldsNames letters names → HoldsNames letters others → names ≡ others
one_list_of_letters letters names others h k = one_field_of_names letters (codes "names") names others h.listed k.listed

pub one_pairs : (letters : Fields) (names others : List (List ℕ)) (size other : ℕ) → HoldsPairs letters names size → HoldsPairs letters others other
    → (names ≡ others) × (size ≡ other)
one_pairs letters names others size other h k =
    let base = one_record letters (codes "base") h.base k.base h.is_base k.is_base in
    let P : Fields → Type 0 = λ fields. HoldsNames fields names in
    (one_list_of_letters k.base names others (subst P base h.named) k.named, one_count letters (codes "size") size other h.sized k.sized)

-- the record has one alphabet
pub record IsOneAlphabet (names others : List (List ℕ)) (one another : Alphabet) (size other : ℕ) : Type 0 where
  pub names_same : names ≡ others
  pub alphabets_same : one ≡ another
  pub sizes_same : size ≡ other

pub one_alphabet : (letters : Fields) (names others : List (List ℕ)) (one another : Alphabet) (size other : ℕ) → HoldsAlphabet letters names one size
    → HoldsAlphabet letters others another other → IsOneAlphabet names others one another size other
one_alphabet letters names others one another size other (HoldsAlphabet.plain is counted named) (HoldsAlphabet.plain again recounted renamed) =
    let same = one_list_of_letters letters names others named renamed in
    record {
      names_same = same;
      alphabets_same = is ∙ (ap (λ (ns : List (List ℕ)). Plain (length ns)) same ∙ sym again);
      sizes_same = counted ∙ (ap length same ∙ sym recounted);
    }
one_alphabet letters names others one another size other (HoldsAlphabet.plain is counted named) (HoldsAlphabet.pairs again held) =
    absurd (identifiers_or_product (one_string letters (codes "type") _ _ named.type held.type))
one_alphabet letters names others one another size other (HoldsAlphabet.pairs is held) (HoldsAlphabet.plain again recounted renamed) =
    absurd (identifiers_or_product (one_string letters (codes "type") _ _ renamed.type held.type))
one_alphabet letters names others one another size other (HoldsAlphabet.pairs is held) (HoldsAlphabet.pairs again reheld) =
    let same = one_pairs letters names others size other held reheld in
    record {
      names_same = same.0;
      alphabets_same = is ∙ (ap (λ (ns : List (List ℕ)). Pair (length ns)) same.0 ∙ sym again);
      sizes_same = same.1;
    }

-- ---- the states

pub one_count_of_states : (given : Fields) (count other : ℕ) → HoldsStates given count → HoldsStates given other → count ≡ other
one_count_of_states given count other h k =
    let states = one_record given (codes "states") h.states k.states h.is_record k.is_record in
    let P : Fields → Type 0 = λ fields. HoldsCount fields (codes "size") count in
    one_count k.states (codes "size") count other (subst P states h.size) k.size

one_place : {v w : Value} → place v no_places ≡ place w no_places → v ≡ w
one_place e = cc

no_place : {v : Value} {p : Places} → no_places ≡ place v p → ⊥
no_place e = cc

-- the initial state and its number
initial_places : (given : Fields) (count state : ℕ) → HoldsInitial given count state
    → ((value_of given (codes "initial") ≡ Some (list_value no_places)) × (state ≡ 0))
    ⊎ (value_of given (codes "initial") ≡ Some (list_value (place (count_value state) no_places)))
initial_places given count _ (HoldsInitial.none is) = inl (is, refl)
initial_places given count _ (HoldsInitial.one is positive within) = inr is

pub one_initial : (given : Fields) (count other state again : ℕ) → HoldsInitial given count state → HoldsInitial given other again → state ≡ again
one_initial given count other state again h k = go (initial_places given count state h) (initial_places given other again k)
  where
    go : ((value_of given (codes "initial") ≡ Some (list_value no_places)) × (state ≡ 0)) ⊎ (value_of given (codes "initial") ≡ Some (list_value (place (count_value state) no_places)))
        → ((value_of given (codes "initial") ≡ Some (list_value no_places)) × (again ≡ 0)) ⊎ (value_of given (codes "initial") ≡ Some (list_value (place (count_value again) no_places)))
        → state ≡ again
    go (inl none) (inl nothing) = none.1 ∙ sym nothing.1
    go (inl none) (inr one) = absurd (no_place (one_list given (codes "initial") _ _ none.0 one))
    go (inr one) (inl none) = absurd (no_place (one_list given (codes "initial") _ _ none.0 one))
    go (inr one) (inr other_one) = count_same (one_place (one_list given (codes "initial") _ _ one other_one))

same_truth : (a b : Bool) → (IsTrue a → IsTrue b) → (IsTrue b → IsTrue a) → a ≡ b
same_truth true true to from = refl
same_truth false false to from = refl
same_truth true false to from = let no = to refl in cc
same_truth false true to from = let no = from refl in cc

pub one_accepting : (given : Fields) (count : ℕ) (marks others : List Bool) → HoldsAccepting given count marks → HoldsAccepting given count others → marks ≡ others
one_accepting given count marks others h k = same_lists marks others (h.one_each ∙ sym k.one_each) (λ n d within.
    let inside : n < count = omega (arith, within, h.one_each) in
    let here = h.each n inside in let there = k.each n inside in
    let value : h.value ≡ k.value = one_value given (codes "accepting") h.value k.value h.holds k.holds in
    let P : Value → Type 0 = λ v. StandsFor v (pos (suc n)) in
    get_or_default marks n d false within
    ∙ (same_truth (get_or marks n false) (get_or others n false) (λ marked. there.1 (subst P value (here.0 marked))) (λ marked. here.1 (subst P (sym value) (there.0 marked)))
    ∙ sym (get_or_default others n d false (omega (arith, inside, k.one_each)))))

-- ---- the moves

pub pos_same : {a b : ℕ} → pos a ≡ pos b → a ≡ b
pos_same e = cc

pub pos_numbers : (xs ys : List ℕ) → map pos xs ≡ map pos ys → xs ≡ ys
pos_numbers [] [] e = refl
pos_numbers [] (y ∷ ys) e = cc
pos_numbers (x ∷ xs) [] e = cc
pos_numbers (x ∷ xs) (y ∷ ys) e = let rest = pos_numbers xs ys (behind e) in let first = pos_same (front e) in cc
  where
    behind : {v w : ℤ} {p q : List ℤ} → v ∷ p ≡ w ∷ q → p ≡ q
    behind h = cc

    front : {v w : ℤ} {p q : List ℤ} → v ∷ p ≡ w ∷ q → v ≡ w
    front h = cc

abbrev pub integers : ℕ × ℕ → ℤ × ℤ
integers e = (pos e.0, pos e.1)

entry_same : (e f : ℤ × ℤ) → Some (entry_value e) ≡ Some (entry_value f) → e ≡ f
entry_same e f same =
    ap (λ (z : ℤ). (z, e.1)) (left {a = e.0} {b = e.1} {c = f.0} {d = f.1} same) ∙ ap (λ (z : ℤ). (f.0, z)) (right {a = e.0} {b = e.1} {c = f.0} {d = f.1} same)
  where
    left : {a b c d : ℤ} → Some (entry_value (a, b)) ≡ Some (entry_value (c, d)) → a ≡ c
    left h = cc

    right : {a b c d : ℤ} → Some (entry_value (a, b)) ≡ Some (entry_value (c, d)) → b ≡ d
    right h = cc

entries_injective : (xs ys : List (ℤ × ℤ)) → map (λ (e : ℤ × ℤ). Some (entry_value e)) xs ≡ map (λ (e : ℤ × ℤ). Some (entry_value e)) ys → xs ≡ ys
entries_injective [] [] e = refl
entries_injective [] (y ∷ ys) e = cc
entries_injective (x ∷ xs) [] e = cc
entries_injective (x ∷ xs) (y ∷ ys) e =
    ap (λ (z : ℤ × ℤ). z ∷ xs) (entry_same x y (front e)) ∙ ap (λ (zs : List (ℤ × ℤ)). y ∷ zs) (entries_injective xs ys (behind e))
  where
    behind : {v w : Option Value} {p q : List (Option Value)} → v ∷ p ≡ w ∷ q → p ≡ q
    behind h = cc

    front : {v w : Option Value} {p q : List (Option Value)} → v ∷ p ≡ w ∷ q → v ≡ w
    front h = cc

-- a value is the list of one list of entries
pub one_list_of_entries : (xs ys : List (ℤ × ℤ)) → list_value (list_of_entries xs) ≡ list_value (list_of_entries ys) → xs ≡ ys
one_list_of_entries xs ys e =
    entries_injective xs ys (places_of-injective _ _ (sym (list_of_entries-places_of xs) ∙ (list_same e ∙ list_of_entries-places_of ys)))

pub integer_entries : (xs ys : List (ℕ × ℕ)) → map integers xs ≡ map integers ys → xs ≡ ys
integer_entries [] [] e = refl
integer_entries [] (y ∷ ys) e = cc
integer_entries (x ∷ xs) [] e = cc
integer_entries (x ∷ xs) (y ∷ ys) e =
    let first : x ≡ y = pair_same x y (pos_same (ap (λ (p : ℤ × ℤ). p.0) (front e))) (pos_same (ap (λ (p : ℤ × ℤ). p.1) (front e))) in
    ap (λ (z : ℕ × ℕ). z ∷ xs) first ∙ ap (λ (zs : List (ℕ × ℕ)). y ∷ zs) (integer_entries xs ys (behind e))
  where
    pair_same : (p q : ℕ × ℕ) → p.0 ≡ q.0 → p.1 ≡ q.1 → p ≡ q
    pair_same p q left right = ap (λ (a : ℕ). (a, p.1)) left ∙ ap (λ (b : ℕ). (q.0, b)) right

    behind : {v w : ℤ × ℤ} {p q : List (ℤ × ℤ)} → v ∷ p ≡ w ∷ q → p ≡ q
    behind h = cc

    front : {v w : ℤ × ℤ} {p q : List (ℤ × ℤ)} → v ∷ p ≡ w ∷ q → v ≡ w
    front h = cc

-- what a list of entries says of the value, format by format
abbrev pub EntriesAre : ℕ → Value → Format → List (ℕ × ℕ) → Type 0
EntriesAre size value Dense entries = (targets : List ℕ) × (value ≡ list_value (list_of_numbers (map pos targets))) × (entries ≡ numbered_from 1 targets)
EntriesAre size value Sparse entries = value ≡ list_value (list_of_entries (map integers entries))

pub entries_are : (size : ℕ) (value : Value) (format : Format) (entries : List (ℕ × ℕ)) → HoldsEntries size value format entries → EntriesAre size value format entries
entries_are size value _ entries (HoldsEntries.dense targets listed full numbered) = (targets, listed, numbered)
entries_are size value _ entries (HoldsEntries.sparse listed apart symbols) = listed

pub one_list_of_moves : (size : ℕ) (value : Value) (format : Format) (xs ys : List (ℕ × ℕ)) → HoldsEntries size value format xs → HoldsEntries size value format ys → xs ≡ ys
one_list_of_moves size value format xs ys h k = go format (entries_are size value format xs h) (entries_are size value format ys k)
  where
    go : (f : Format) → EntriesAre size value f xs → EntriesAre size value f ys → xs ≡ ys
    go Dense here there =
        here.2 ∙ (ap (λ (ts : List ℕ). numbered_from 1 ts) (pos_numbers here.0 there.0 (one_list_of_numbers _ _ (sym here.1 ∙ there.1))) ∙ sym there.2)
    go Sparse here there = integer_entries xs ys (one_list_of_entries _ _ (sym here ∙ there))

pub one_row : (size count other : ℕ) (format : Format) (value : Value) (row another : Moves) → HoldsRow size count format value row → HoldsRow size other format value another → row ≡ another
one_row size count other format value row another h k =
    let same = one_list_of_moves size value format h.entries k.entries h.holds k.holds in
    same_from_targets row another h.is_row k.is_row (λ symbol.
    h.same symbol ∙ (ap (λ (es : List (ℕ × ℕ)). target es symbol) same ∙ sym (k.same symbol)))

pub one_list_of_rows : (size count other : ℕ) (format : Format) (places : Places) (rows others : List Moves) → HoldsRows size count format places rows
    → HoldsRows size other format places others → rows ≡ others
one_list_of_rows size count other format no_places rows others h k = h ∙ sym k
one_list_of_rows size count other format (place v ps) [] others h k = absurd h
one_list_of_rows size count other format (place v ps) (r ∷ rows) [] h k = absurd k
one_list_of_rows size count other format (place v ps) (r ∷ rows) (s ∷ others) h k =
    ap (λ (m : Moves). m ∷ rows) (one_row size count other format v r s h.0 k.0)
    ∙ ap (λ (ms : List Moves). s ∷ ms) (one_list_of_rows size count other format ps rows others h.1 k.1)
one_list_of_rows size count other format (empty_place ps) rows others h k = absurd h

dense_or_sparse : codes "dense deterministic" ≡ codes "sparse" → ⊥
dense_or_sparse e = let lengths : 19 ≡ 6 = ap length e in omega (arith, lengths)

pub one_format : (a b : Format) → format_name a ≡ format_name b → a ≡ b
one_format Dense Dense e = refl
one_format Sparse Sparse e = refl
one_format Dense Sparse e = absurd (dense_or_sparse e)
one_format Sparse Dense e = absurd (dense_or_sparse (sym e))

pub one_list_of_all_moves : (given : Fields) (size : ℕ) (rows others : List Moves) → HoldsMoves given size rows → HoldsMoves given size others → rows ≡ others
one_list_of_all_moves given size rows others h k =
    let table = one_record given (codes "table") h.table k.table h.is_record k.is_record in
    let N : Fields → Type 0 = λ fields. HoldsString fields (codes "format") (format_name h.format) in
    let L : Fields → Type 0 = λ fields. value_of fields (codes "transitions") ≡ Some (list_value h.places) in
    let format = one_format h.format k.format (one_string k.table (codes "format") _ _ (subst N table h.named) k.named) in
    let places = one_list k.table (codes "transitions") h.places k.places (subst L table h.listed) k.listed in
    let F : Format → Type 0 = λ f. HoldsRows size (length rows) f h.places rows in
    let P : Places → Type 0 = λ ps. HoldsRows size (length rows) k.format ps rows in
    one_list_of_rows size (length rows) (length others) k.format k.places rows others (subst P places (subst F format h.each)) k.each

-- ---- the table

pub tables_same : (a b : Table) → a.initial ≡ b.initial → a.rows ≡ b.rows → a.accepting ≡ b.accepting → a ≡ b
tables_same a b initial rows accepting =
    ap (λ (i : ℕ). record { initial = i; rows = a.rows; accepting = a.accepting }) initial
    ∙ (ap (λ (ms : List Moves). record { initial = b.initial; rows = ms; accepting = a.accepting }) rows
    ∙ ap (λ (bs : List Bool). record { initial = b.initial; rows = b.rows; accepting = bs }) accepting)

-- the fields say one table
pub record IsOneTable (names others : List (List ℕ)) (one another : Alphabet) (read again : Table) : Type 0 where
  pub names_same : names ≡ others
  pub alphabets_same : one ≡ another
  pub tables : read ≡ again

pub one_table : (given : Fields) (names others : List (List ℕ)) (one another : Alphabet) (read again : Table) → HoldsTable given names one read
    → HoldsTable given others another again → IsOneTable names others one another read again
one_table given names others one another read again h k = record {
  names_same = alphabet.names_same;
  alphabets_same = alphabet.alphabets_same;
  tables = tables_same read again (one_initial given _ _ read.initial again.initial h.initial k.initial) rows accepting;
}
  where
    letters : h.letters ≡ k.letters
    letters = one_record given (codes "alphabet") h.letters k.letters h.is_record k.is_record

    L : Fields → Type 0
    L fields = HoldsAlphabet fields names one h.size

    alphabet : IsOneAlphabet names others one another h.size k.size
    alphabet = one_alphabet k.letters names others one another h.size k.size (subst L letters h.lettered) k.lettered

    M : ℕ → Type 0
    M size = HoldsMoves given size read.rows

    rows : read.rows ≡ again.rows
    rows = one_list_of_all_moves given k.size read.rows again.rows (subst M alphabet.sizes_same h.moves) k.moves

    A : ℕ → Type 0
    A count = HoldsAccepting given count read.accepting

    accepting : read.accepting ≡ again.accepting
    accepting = one_accepting given (length again.rows) read.accepting again.accepting (subst A (ap length rows) h.accepting) k.accepting

-- the moves that are left are those of one table
step_same : (n : ℕ) (read one other : Table) → IsWithoutMisplaced n read one → IsWithoutMisplaced n read other → (state symbol : ℕ) → step one state symbol ≡ step other state symbol
step_same n read one other h k state symbol =
    elim (cases_eq (step one state symbol) (step other state symbol)) [
      | inl same ↦ same
      | inr differ ↦
          absurd (differ (h.kept state symbol (λ gone. differ (h.dropped state symbol gone ∙ sym (k.dropped state symbol gone)))
          ∙ sym (k.kept state symbol (λ gone. differ (h.dropped state symbol gone ∙ sym (k.dropped state symbol gone))))))
    ]

one_without_misplaced : (n : ℕ) (read one other : Table) → IsWithoutMisplaced n read one → IsWithoutMisplaced n read other → one ≡ other
one_without_misplaced n read one other h k =
    tables_same one other (h.initial ∙ sym k.initial)
    (same_lists one.rows other.rows (h.size ∙ sym k.size) (λ place d within.
    get_or_default one.rows place d [] within
    ∙ (same_from_targets (moves_of one (suc place)) (moves_of other (suc place)) (IsRow-moves_of one (suc place) h.is_table) (IsRow-moves_of other (suc place) k.is_table)
    (step_same n read one other h k (suc place))
    ∙ sym (get_or_default other.rows place d [] (omega (arith, within, h.size, k.size))))))
    (h.accepting ∙ sym k.accepting)

pub one_cleaned : (alphabet : Alphabet) (read one other : Table) → IsCleaned alphabet read one → IsCleaned alphabet read other → one ≡ other
one_cleaned (Plain n) read one other h k = h ∙ sym k
one_cleaned (Pair n) read one other h k = one_without_misplaced n read one other h.0 k.0

pub one_automaton : (given : Fields) (names others : List (List ℕ)) (one other : Automaton) → HoldsAutomaton given names one → HoldsAutomaton given others other
    → (names ≡ others) × (one ≡ other)
one_automaton given names others one other h k = (same.names_same, automata_same)
  where
    same : IsOneTable names others one.alphabet other.alphabet h.read k.read
    same = one_table given names others one.alphabet other.alphabet h.read k.read h.holds k.holds

    A : Alphabet → Type 0
    A alphabet = IsCleaned alphabet h.read one.table

    R : Table → Type 0
    R read = IsCleaned other.alphabet read one.table

    table : one.table ≡ other.table
    table = one_cleaned other.alphabet k.read one.table other.table (subst R same.tables (subst A same.alphabets_same h.cleaned)) k.cleaned

    automata_same : one ≡ other
    automata_same =
        ap (λ (a : Alphabet). record { alphabet = a; table = one.table }) same.alphabets_same
        ∙ ap (λ (t : Table). record { alphabet = other.alphabet; table = t }) table
