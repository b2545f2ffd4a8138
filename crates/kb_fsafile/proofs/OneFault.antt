-- A check finds one fault at most, and none where the fields say an automaton; so for files.
use Rattle.std.proofs.Common.{◌≡◌, ◌≢◌, ℕ, ◌<◌, ◌≤◌, ◌⊎◌, List, Option, inl, inr, refl, sym, ap, subst, ◌∙◌, arith}
use Rattle.kb_record.specs.Tree.{Value, Fields, TextTree, record_value}
use Rattle.kb_record.specs.Grammar.{TextOf}
use Rattle.kb_record.specs.Nesting.{deepest, text_nesting}
use Rattle.kb_record.specs.Faults.{HasTextFault}
use Rattle.kb_record.specs.declared.error.RecordError.{RecordError}
use Rattle.kb_record.specs.declared.error.RecordError.TheVariants as record_errors
use Rattle.kb_fields.specs.Fields.{namings, IsRepeatedAt, IsFirstRepeated}
use Rattle.kb_fields.specs.declared.error.NamesFault.TheVariants as names_faults
use Rattle.kb_fields.proofs.FirstFaultLemmas.{one_first_fault, one_first_place}
use Rattle.kb_fields.proofs.ListingLemmas.{some_value}
use Rattle.kb_fields.proofs.NameFaults.{one_names_fault}
use Rattle.kb_fields.proofs.NamingLemmas.{one_repeated}
use Rattle.kb_fsa.specs.declared.alphabet.Alphabet.{Alphabet}
use Rattle.kb_fsa.specs.declared.alphabet.Alphabet.TheVariants.{Plain, Pair}
use Rattle.kb_fsa.specs.Table.{Table, AcceptsFrom}
use Rattle.kb_fsa.specs.Language.{Automaton}
use Rattle.kb_padding.specs.Misplaced.{IsPaddingFault, IsCleaned}
use Rattle.kb_padding.specs.declared.error.PaddingFault.{PaddingFault}
use Rattle.kb_padding.specs.declared.error.PaddingFault.TheVariants as padding_faults
use Rattle.kb_fsafile.specs.Holds.{HoldsTable, HoldsAutomaton, AutomatonOf}
use Rattle.kb_fsafile.specs.Checks.{FieldPlace, is_fsa_field, alphabet_field, alphabet_type_field, arity_field, base_field, base_type_field, names_field, names_size_field, pairs_size_field, names_format_field, states_field, states_type_field, states_size_field, initial_field, accepting_field, table_field, default_field, table_format_field, transitions_field}
use Rattle.kb_fsafile.specs.Checks.{field_of, FieldStep, field_presence, field_kind, field_value, field_elements, RowStep, row_kind, row_length, entry_range, entry_symbol, Check, no_field_twice, of_field, of_row, padded_texts, stage_of, Before}
use Rattle.kb_fsafile.specs.Faults.{IsRefusedValue, HasRefusedElement, FindsInField, FindsInRow, HasPaddingInside, Finds, IsFirstOf, IsFirstOfText, HasFsaFault}
use Rattle.kb_fsafile.specs.Reading.{IsMemoryOr}
use Rattle.kb_fsafile.specs.RowsRead.{TableOf, IsCleaningFault}
use Rattle.kb_fsafile.specs.Refusals.{RefusesPadding}
use Rattle.kb_fsafile.specs.declared.format.Format.{Format}
use Rattle.kb_fsafile.specs.declared.format.Format.TheVariants.{Dense, Sparse}
use Rattle.kb_fsafile.specs.declared.error.Field.TheVariants as kinds
use Rattle.kb_fsafile.specs.declared.error.FsaError.{FsaError}
use Rattle.kb_fsafile.specs.declared.error.FsaError.TheVariants as errors
use Rattle.kb_fsafile.proofs.CheckLemmas.{in_order, order_small}
use Rattle.kb_fsafile.proofs.FirstLemmas.{found_or_memory}
use Rattle.kb_fsafile.proofs.NoFault.{table_free}
use Rattle.kb_fsafile.proofs.Owners.{one_owner}
use Rattle.kb_fsafile.proofs.UniqueAutomaton.{one_table}

-- a fault of fields, and neither one of the text nor want of memory
abbrev IsOfFields : FsaError → Type 0
IsOfFields (errors.Syntax at) = ⊥
IsOfFields (errors.TooDeep at) = ⊥
IsOfFields errors.Memory = ⊥
IsOfFields _ = Unit {0}

-- the refusal is this one, which is of fields
abbrev IsThat : FsaError → FsaError → Type 0
IsThat refusal error = (error ≡ refusal) × IsOfFields refusal

same_refusal : (e f refusal : FsaError) → IsThat refusal e → IsThat refusal f → e ≡ f
same_refusal e f refusal a b = a.0 ∙ sym b.0

-- the refusal of a value that isn't read, and that of an element; of a step of a row
abbrev value_refusal : FieldPlace → FsaError
value_refusal names_field = errors.TooManyGenerators
value_refusal states_type_field = errors.StatesWrong
value_refusal initial_field = errors.NotDeterministic
value_refusal default_field = errors.NotDeterministic
value_refusal table_format_field = errors.NotDeterministic
value_refusal transitions_field = errors.StatesWrong
value_refusal _ = errors.AlphabetOther

value_refused_so : (given : Fields) (place : FieldPlace) (owner : Fields) (value : Value) (e : FsaError) → IsRefusedValue given place owner value e → IsThat (value_refusal place) e
value_refused_so given is_fsa_field owner value e r = absurd r
value_refused_so given alphabet_field owner value e r = absurd r
value_refused_so given alphabet_type_field owner value e r = (r.0, tt)
value_refused_so given arity_field owner value e r = (r.0, tt)
value_refused_so given base_field owner value e r = absurd r
value_refused_so given base_type_field owner value e r = (r.0, tt)
value_refused_so given names_field owner value e r = (r.0, tt)
value_refused_so given names_size_field owner value e r = (r.0, tt)
value_refused_so given pairs_size_field owner value e r = (r.0, tt)
value_refused_so given names_format_field owner value e r = (r.0, tt)
value_refused_so given states_field owner value e r = absurd r
value_refused_so given states_type_field owner value e r = (r.0, tt)
value_refused_so given states_size_field owner value e r = absurd r
value_refused_so given initial_field owner value e r = (r.0, tt)
value_refused_so given accepting_field owner value e r = absurd r
value_refused_so given table_field owner value e r = absurd r
value_refused_so given default_field owner value e r = (r.0, tt)
value_refused_so given table_format_field owner value e r = (r.0, tt)
value_refused_so given transitions_field owner value e r = (r.0, tt)

abbrev row_refusal : RowStep → FsaError
row_refusal row_kind = errors.WrongKind kinds.Transitions
row_refusal row_length = errors.StatesWrong
row_refusal (entry_range j) = errors.TargetOutOfRange
row_refusal (entry_symbol j) = errors.NotDeterministic

row_refused_so : (format : Format) (size count : ℕ) (row : Option Value) (step : RowStep) (e : FsaError) → FindsInRow format size count row step e → IsThat (row_refusal step) e
row_refused_so format size count row row_kind e r = (r.0, tt)
row_refused_so Dense size count row row_length e r = (r.0, tt)
row_refused_so Sparse size count row row_length e r = absurd r
row_refused_so Dense size count row (entry_range j) e r = (r.0, tt)
row_refused_so Sparse size count row (entry_range j) e r = (r.0, tt)
row_refused_so Dense size count row (entry_symbol j) e r = absurd r
row_refused_so Sparse size count row (entry_symbol j) e r = (r.0, tt)

-- an element of one value
one_element : (given : Fields) (place : FieldPlace) (value : Value) (e f : FsaError) → HasRefusedElement given place value e → HasRefusedElement given place value f → e ≡ f
one_element given names_field value e f a b =
    let same = one_names_fault value (names_faults.Taken a.0) (names_faults.Taken b.0) a.2 b.2 (λ never. cc) (λ never. cc) in
    a.1 ∙ ap errors.NameTaken (taken_same same) ∙ sym b.1
  where
    taken_same : {x y : List ℕ} → names_faults.Taken x ≡ names_faults.Taken y → x ≡ y
    taken_same h = cc
one_element given initial_field value e f a b = a.0 ∙ sym b.0
one_element given accepting_field value e f a b = a.0 ∙ sym b.0
one_element given _ value e f a b = absurd a

in_one_field : (given : Fields) (place : FieldPlace) (owner : Fields) (step : FieldStep) (e f : FsaError) → FindsInField given place owner step e
    → FindsInField given place owner step f → e ≡ f
in_one_field given place owner field_presence e f a b = a.0 ∙ sym b.0
in_one_field given place owner field_kind e f a b = a.0 ∙ sym b.0
in_one_field given place owner field_value e f a b =
    same_refusal e f (value_refusal place) (value_refused_so given place owner a.0 e a.2) (value_refused_so given place owner b.0 f b.2)
in_one_field given place owner field_elements e f a b =
    let P : Value → Type 0 = λ v. HasRefusedElement given place v e in
    one_element given place b.0 e f (subst P (some_value (sym a.1 ∙ b.1)) a.2) b.2

one_first_repeated : (value : Value) (m n : List ℕ) → IsFirstRepeated value m → IsFirstRepeated value n → m ≡ n
one_first_repeated value m n a b = one_first_place (IsRepeatedAt (namings value)) (λ k x y s t. one_repeated (namings value) k x y s t) m n a b

-- a check finds one fault at most
one_finding : (given : Fields) (check : Check) (e f : FsaError) → Finds given check e → Finds given check f → e ≡ f
one_finding given no_field_twice e f a b = a.1 ∙ ap errors.FieldTwice (one_first_repeated (record_value given) a.0 b.0 a.2 b.2) ∙ sym b.1
one_finding given (of_field place step) e f a b =
    let P : Fields → Type 0 = λ owner. FindsInField given place owner step e in
    in_one_field given place b.0 step e f (subst P (one_owner given place a.0 b.0 a.1 b.1) a.2) b.2
one_finding given (of_row k step) e f a b =
    same_refusal e f (row_refusal step) (row_refused_so a.0 a.1 a.2 _ step e a.5.1) (row_refused_so b.0 b.1 b.2 _ step f b.5.1)
one_finding given padded_texts e f a b = a.0 ∙ sym b.0

pub one_fault_of_fields : (given : Fields) (e f : FsaError) → IsFirstOf given e → IsFirstOf given f → e ≡ f
one_fault_of_fields given e f a b = one_first_fault Before (λ check error. Finds given check error) in_order (λ c x y s t. one_finding given c x y s t) e f a b

-- ---- what is found is of fields

by_refusal : (e refusal : FsaError) → IsThat refusal e → IsOfFields e
by_refusal e refusal is = let P : FsaError → Type 0 = λ x. IsOfFields x in subst P (sym is.0) is.1

element_of_fields : (given : Fields) (place : FieldPlace) (value : Value) (e : FsaError) → HasRefusedElement given place value e → IsOfFields e
element_of_fields given names_field value e a = by_refusal e (errors.NameTaken a.0) (a.1, tt)
element_of_fields given initial_field value e a = by_refusal e errors.TargetOutOfRange (a.0, tt)
element_of_fields given accepting_field value e a = by_refusal e errors.TargetOutOfRange (a.0, tt)
element_of_fields given _ value e a = absurd a

field_of_fields : (given : Fields) (place : FieldPlace) (owner : Fields) (step : FieldStep) (e : FsaError) → FindsInField given place owner step e → IsOfFields e
field_of_fields given place owner field_presence e a = by_refusal e (errors.MissingField (field_of place)) (a.0, tt)
field_of_fields given place owner field_kind e a = by_refusal e (errors.WrongKind (field_of place)) (a.0, tt)
field_of_fields given place owner field_value e a = by_refusal e (value_refusal place) (value_refused_so given place owner a.0 e a.2)
field_of_fields given place owner field_elements e a = element_of_fields given place a.0 e a.2

found_of_fields : (given : Fields) (check : Check) (e : FsaError) → Finds given check e → IsOfFields e
found_of_fields given no_field_twice e a = by_refusal e (errors.FieldTwice a.0) (a.1, tt)
found_of_fields given (of_field place step) e a = field_of_fields given place a.0 step e a.2
found_of_fields given (of_row k step) e a = by_refusal e (row_refusal step) (row_refused_so a.0 a.1 a.2 _ step e a.5.1)
found_of_fields given padded_texts e a = by_refusal e errors.PaddingInside (a.0, tt)

-- ---- texts

-- the first fault of the fields is that of the bytes
pub text_fault : (bytes : List ℕ) (text : TextTree) (error : FsaError) → TextOf bytes text → text_nesting text ≤ deepest → IsMemoryOr (IsFirstOf text.fields) error
    → HasFsaFault bytes error
text_fault bytes text (errors.Syntax at) formed shallow fault = absurd (found_of_fields text.fields fault.check (errors.Syntax at) fault.found)
text_fault bytes text (errors.TooDeep at) formed shallow fault = absurd (found_of_fields text.fields fault.check (errors.TooDeep at) fault.found)
text_fault bytes text errors.Memory formed shallow fault = tt
text_fault bytes text error formed shallow fault = record { text = text; formed = formed; shallow = shallow; first = fault }

-- a text that is accepted and not padded is the first fault of fields that say the table
padding_fault : (given : Fields) (names : List (List ℕ)) (n : ℕ) (read : Table) (fault : PaddingFault) (error : FsaError) → HoldsTable given names (Pair n) read
    → IsPaddingFault n read fault → RefusesPadding fault error → IsMemoryOr (IsFirstOf given) error
padding_fault given names n read padding_faults.Inside error holds unpadded is = found_or_memory (IsFirstOf given) error (record {
  check = padded_texts;
  found = (is, record { names = names; n = n; read = read; holds = holds; text = unpadded.0; accepted = unpadded.1; not_padded = unpadded.2 });
  first = λ earlier e before found. sooner earlier e before found;
})
  where
    sooner : (earlier : Check) (e : FsaError) → Before earlier padded_texts → Finds given earlier e → ⊥
    sooner earlier e (inl before) found = (table_free given names (Pair n) read holds).none earlier e before found
    sooner no_field_twice e (inr same) found = absurd same.1
    sooner (of_field p s) e (inr same) found = absurd same.1
    sooner (of_row k s) e (inr same) found = absurd same.1
    sooner padded_texts e (inr same) found = absurd same.1
padding_fault given names n read padding_faults.Memory error holds any is = let P : FsaError → Type 0 = λ e. IsMemoryOr (IsFirstOf given) e in subst P (sym is) tt

cleaning_fault : (given : Fields) (names : List (List ℕ)) (alphabet : Alphabet) (read : Table) (error : FsaError) → HoldsTable given names alphabet read
    → IsCleaningFault alphabet read error → IsMemoryOr (IsFirstOf given) error
cleaning_fault given names (Plain n) read error holds fault = absurd fault
cleaning_fault given names (Pair n) read error holds fault = padding_fault given names n read fault.0 error holds fault.1 fault.2

-- a fault of the cleaned table is one of the bytes
pub table_fault : (bytes : List ℕ) (names : List (List ℕ)) (alphabet : Alphabet) (read : Table) (error : FsaError) → TableOf bytes names alphabet read
    → IsCleaningFault alphabet read error → HasFsaFault bytes error
table_fault bytes names alphabet read error of_text fault =
    text_fault bytes of_text.text error of_text.formed of_text.shallow (cleaning_fault of_text.text.fields names alphabet read error of_text.has.holds fault)

-- so is what cleaning is refused for, or want of memory
pub table_or_memory : (bytes : List ℕ) (names : List (List ℕ)) (alphabet : Alphabet) (read : Table) (error : FsaError) → TableOf bytes names alphabet read
    → IsMemoryOr (IsCleaningFault alphabet read) error → HasFsaFault bytes error
table_or_memory bytes names alphabet read errors.Memory of_text fault = tt
table_or_memory bytes names alphabet read error of_text fault = table_fault bytes names alphabet read error of_text fault

pub cleaning_or_memory : (alphabet : Alphabet) (read same : Table) (error : FsaError) → same ≡ read → IsCleaningFault alphabet same error
    → IsMemoryOr (IsCleaningFault alphabet read) error
cleaning_or_memory alphabet read same errors.Memory is fault = tt
cleaning_or_memory alphabet read same error is fault =
    let P : Table → Type 0 = λ table. IsCleaningFault alphabet table error in subst P is fault

pub want_of_memory : (IsFault : FsaError → Type 0) (error : FsaError) → error ≡ errors.Memory → IsMemoryOr IsFault error
want_of_memory IsFault error is = let P : FsaError → Type 0 = λ e. IsMemoryOr IsFault e in subst P (sym is) tt

-- ---- automata

-- an accepted text is padded
no_padding_inside : (given : Fields) (names : List (List ℕ)) (automaton : Automaton) → HoldsAutomaton given names automaton → HasPaddingInside given → ⊥
no_padding_inside given names automaton h fault =
    let same = one_table given fault.names names (Pair fault.n) automaton.alphabet fault.read h.read fault.holds h.holds in
    let A : Alphabet → Type 0 = λ a. IsCleaned a h.read automaton.table in
    let R : Table → Type 0 = λ r. AcceptsFrom r r.initial fault.text in
    let cleaned = subst A (sym same.alphabets_same) h.cleaned in
    fault.not_padded (cleaned.1 fault.text (subst R same.tables fault.accepted))

-- no check finds a fault where the fields say an automaton
pub no_fault : (given : Fields) (names : List (List ℕ)) (automaton : Automaton) (check : Check) (error : FsaError) → HoldsAutomaton given names automaton
    → Finds given check error → ⊥
no_fault given names automaton check error h found = go check found (λ before. (table_free given names automaton.alphabet h.read h.holds).none check error before found)
  where
    go : (c : Check) → Finds given c error → (stage_of c < 21 → ⊥) → ⊥
    go no_field_twice here later = later (omega arith)
    go (of_field place step) here later = let small = order_small place in later (omega (arith, small))
    go (of_row k step) here later = later (omega arith)
    go padded_texts here later = no_padding_inside given names automaton h here.1

-- ---- bytes

-- the refusal of a text as that of a file of an automaton
abbrev file_refusal : RecordError → FsaError
file_refusal (record_errors.Syntax at) = errors.Syntax at
file_refusal (record_errors.TooDeep at) = errors.TooDeep at
file_refusal record_errors.Memory = errors.Memory

-- the bytes have the fault as no text
record IsTextRefusal (bytes : List ℕ) (error : FsaError) : Type 0 where
  pub refusal : RecordError
  pub fault : HasTextFault bytes refusal
  pub named : refusal ≢ record_errors.Memory
  pub same : error ≡ file_refusal refusal

syntax_is_no_memory : (at : ℕ) → record_errors.Syntax at ≡ record_errors.Memory → ⊥
syntax_is_no_memory at is = cc

depth_is_no_memory : (at : ℕ) → record_errors.TooDeep at ≡ record_errors.Memory → ⊥
depth_is_no_memory at is = cc

-- a fault of the bytes is one of a text, or the first of a text's fields
text_or_fields : (bytes : List ℕ) (error : FsaError) → HasFsaFault bytes error → error ≢ errors.Memory → IsTextRefusal bytes error ⊎ IsFirstOfText bytes error
text_or_fields bytes (errors.Syntax at) fault given = inl (record { refusal = record_errors.Syntax at; fault = fault; named = syntax_is_no_memory at; same = refl })
text_or_fields bytes (errors.TooDeep at) fault given = inl (record { refusal = record_errors.TooDeep at; fault = fault; named = depth_is_no_memory at; same = refl })
text_or_fields bytes errors.Memory fault given = absurd (given refl)
text_or_fields bytes error fault given = inr fault

module _ (bytes : List ℕ) (one_tree : (one other : TextTree) → TextOf bytes one → TextOf bytes other → one ≡ other)
    (no_text_fault : (text : TextTree) (refusal : RecordError) → TextOf bytes text → text_nesting text ≤ deepest → HasTextFault bytes refusal → refusal ≡ record_errors.Memory) where
  pub no_file_fault : (names : List (List ℕ)) (automaton : Automaton) (error : FsaError) → AutomatonOf bytes names automaton → HasFsaFault bytes error → error ≡ errors.Memory
  no_file_fault names automaton (errors.Syntax at) h fault = absurd (syntax_is_no_memory at (no_text_fault h.text (record_errors.Syntax at) h.formed h.shallow fault))
  no_file_fault names automaton (errors.TooDeep at) h fault = absurd (depth_is_no_memory at (no_text_fault h.text (record_errors.TooDeep at) h.formed h.shallow fault))
  no_file_fault names automaton errors.Memory h fault = refl
  no_file_fault names automaton error h fault =
      let same = one_tree fault.text h.text fault.formed h.formed in
      let P : TextTree → Type 0 = λ t. IsFirstOf t.fields error in
      let first = subst P same fault.first in
      absurd (no_fault h.text.fields names automaton first.check error h.holds first.found)

  module _ (one_text_fault : (one other : RecordError) → HasTextFault bytes one → HasTextFault bytes other → one ≢ record_errors.Memory → other ≢ record_errors.Memory → one ≡ other) where
    one_of_file : (one other : FsaError) → IsTextRefusal bytes one ⊎ IsFirstOfText bytes one → IsTextRefusal bytes other ⊎ IsFirstOfText bytes other → one ≡ other
    one_of_file one other (inl a) (inl b) = a.same ∙ ap file_refusal (one_text_fault a.refusal b.refusal a.fault b.fault a.named b.named) ∙ sym b.same
    one_of_file one other (inl a) (inr b) = absurd (a.named (no_text_fault b.text a.refusal b.formed b.shallow a.fault))
    one_of_file one other (inr a) (inl b) = absurd (b.named (no_text_fault a.text b.refusal a.formed a.shallow b.fault))
    one_of_file one other (inr a) (inr b) =
        let same = one_tree a.text b.text a.formed b.formed in
        let P : TextTree → Type 0 = λ t. IsFirstOf t.fields one in
        one_fault_of_fields b.text.fields one other (subst P same a.first) b.first

    pub one_file_fault : (one other : FsaError) → HasFsaFault bytes one → HasFsaFault bytes other → one ≢ errors.Memory → other ≢ errors.Memory → one ≡ other
    one_file_fault one other a b given_one given_other = one_of_file one other (text_or_fields bytes one a given_one) (text_or_fields bytes other b given_other)
