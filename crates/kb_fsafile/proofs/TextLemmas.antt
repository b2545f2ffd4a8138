-- Automata as fields say them.
use Rattle.std.proofs.Common.{◌≡◌, ◌≢◌, ◌↔◌, ℕ, suc, ◌+◌, ◌*◌, ◌<◌, ◌≤◌, Bool, false, IsTrue, List, [], ◌∷◌, length, get_or, Some, ◌⊎◌, inl, inr, refl, sym, ap, ◌∙◌, subst, arith}
use Rattle.std.specs.Prelude.{codes}
use Rattle.std.specs.List.{All}
use Rattle.std.proofs.lemmas.List.Elements.{All-nil, All-cons, All-contains}
use Rattle.kb_word.specs.Relations.{IsOver}
use Rattle.kb_record.specs.Tree.{Fields, record_value}
use Rattle.kb_fsa.specs.declared.alphabet.Alphabet.{Alphabet}
use Rattle.kb_fsa.specs.declared.alphabet.Alphabet.TheVariants.{Plain}
use Rattle.kb_fsa.specs.Table.{Moves, Table, IsTable, HasSymbols, moves_of, step, after}
use Rattle.kb_fsa.specs.Language.{IsAutomaton, generators}
use Rattle.kb_fields.specs.Fields.{value_of, bare_name, HasFieldTwice}
use Rattle.kb_fsa.proofs.Lookups.{lookup_from_target, entry_from_lookup, All-moves_of, IsRow-moves_of, after_none}
use Rattle.kb_fsafile.specs.Holds.{HoldsCount, HoldsAlphabet, plain, pairs, HoldsStates, HoldsInitial, HoldsAccepting, HoldsTable}
use Rattle.kb_fsafile.specs.Standing.{HasSize}
use Rattle.kb_fsafile.specs.Reading.{HasLetters, IsAcceptingState, HasAcceptingStates}
use Rattle.kb_fsafile.specs.RowsRead.{HasRows, HasTable, most_symbols}
use Rattle.kb_fsafile.specs.declared.accepting.Accepting.{Accepting}

-- the size of the alphabet, and how many letters it has
pub size_of_letters : (given : Fields) (names : List (List ℕ)) (alphabet : Alphabet) (size : ℕ) → HasLetters given names alphabet size → HasSize given size
size_of_letters given names alphabet size has = go has.lettered
  where
    go : HoldsAlphabet has.letters names alphabet size → HasSize given size
    go (plain is same named) =
        let P : ℕ → Type 0 = λ n. HoldsCount has.letters (codes "size") n in
        record { letters = has.letters; is_record = has.is_record; is_size = subst P (sym same) named.counted }
    go (pairs is named) = record { letters = has.letters; is_record = has.is_record; is_size = named.sized }

pub size_at_most : (given : Fields) (names : List (List ℕ)) (alphabet : Alphabet) (size : ℕ) → HasLetters given names alphabet size → size ≤ most_symbols alphabet
size_at_most given names alphabet size has = go has.lettered
  where
    P : Alphabet → Type 0
    P a = size ≤ most_symbols a

    right : (n pairs_of : ℕ) → (size + 1 ≡ pairs_of) ⊎ (size ≡ pairs_of) → size ≤ pairs_of
    right n pairs_of (inl without) = omega (arith, without)
    right n pairs_of (inr whole) = omega (arith, whole)

    go : HoldsAlphabet has.letters names alphabet size → size ≤ most_symbols alphabet
    go (plain is same named) = subst P (sym is) (omega (arith, same))
    go (pairs is named) = subst P (sym is) (right (length names) ((length names + 1) * (length names + 1)) named.right_size)

pub few_letters : (given : Fields) (names : List (List ℕ)) (alphabet : Alphabet) (size : ℕ) → HasLetters given names alphabet size → generators alphabet ≤ 65534
few_letters given names alphabet size has = go has.lettered
  where
    P : Alphabet → Type 0
    P a = generators a ≤ 65534

    go : HoldsAlphabet has.letters names alphabet size → generators alphabet ≤ 65534
    go (plain is same named) = subst P (sym is) (omega (arith, named.free.few))
    go (pairs is named) = subst P (sym is) (omega (arith, named.named.free.few))

pub more_symbols : (table : Table) (size most : ℕ) → size ≤ most → HasSymbols size table → HasSymbols most table
more_symbols table size most upto symbols = λ k d within j e inside. omega (arith, upto, symbols k d within j e inside)

-- the initial state is one of those counted
pub initial_within : (given : Fields) (count state : ℕ) → HoldsInitial given count state → state ≤ count
initial_within given count state (HoldsInitial.none is) = omega arith
initial_within given count state (HoldsInitial.one is positive within) = within

-- a table of rows over the letters reads words over them
step_over : (n : ℕ) (table : Table) (state symbol : ℕ) → IsTable table → HasSymbols n table → step table state symbol ≢ 0 → (0 < symbol) × (symbol ≤ n)
step_over n table state symbol is symbols some =
    let row = moves_of table state in
    let numbers = (IsRow-moves_of table state is).numbers in
    let few = All-moves_of (λ (ms : Moves). All (λ (m : ℕ × ℕ). m.0 ≤ n) ms) table state (All-nil (λ (m : ℕ × ℕ). m.0 ≤ n)) symbols in
    let found = entry_from_lookup row symbol (step table state symbol) (lookup_from_target row symbol (step table state symbol) (omega (arith, some)) refl) in (
      (All-contains (λ (m : ℕ × ℕ). (0 < m.0) × (0 < m.1)) row (symbol, step table state symbol) numbers found).0,
      All-contains (λ (m : ℕ × ℕ). m.0 ≤ n) row (symbol, step table state symbol) few found,
    )

pub words_over : (n : ℕ) (table : Table) (state : ℕ) (text : List ℕ) → IsTable table → HasSymbols n table → after table state text ≢ 0 → IsOver n text
words_over n table state [] is symbols some = All-nil (λ (x : ℕ). (0 < x) × (x ≤ n))
words_over n table state (symbol ∷ text) is symbols some =
    All-cons (λ (x : ℕ). (0 < x) × (x ≤ n)) symbol text
    (step_over n table state symbol is symbols (λ none. some (ap (λ (s : ℕ). after table s text) none ∙ after_none table text)))
    (words_over n table (step table state symbol) text is symbols some)

-- which states accept
pub accepting_held : (given : Fields) (count : ℕ) (accepting : Accepting) (answers : List Bool) → HasAcceptingStates given count accepting → length answers ≡ count
    → ((place : ℕ) → IsTrue (get_or answers place false) ↔ IsAcceptingState accepting (suc place)) → HoldsAccepting given count answers
accepting_held given count accepting answers has all each = record {
  value = has.value;
  holds = has.holds;
  kind = has.stands.kind;
  within = has.stands.within;
  one_each = all;
  each = λ place within. (λ accepts. (has.stands.each (suc place)).0 ((each place).0 accepts), λ stands. (each place).1 ((has.stands.each (suc place)).1 stands));
}

-- rows, and which of their states accept, are a table
pub table_of_rows : (given : Fields) (size count state : ℕ) (rows : List Moves) (answers : List Bool) → HasRows given size count rows → state ≤ count
    → length answers ≡ length rows → IsTable (record { initial = state; rows = rows; accepting = answers })
table_of_rows given size count state rows answers has within all = record {
  one_answer_each = all;
  size = omega (arith, has.one_each, has.few);
  initial = omega (arith, within, has.one_each);
  rows = has.are_rows;
  targets = λ k d inside j e here. let bounds = has.within k d inside j e here in omega (arith, bounds.1, has.one_each);
}

pub table_held : (given : Fields) (size count state : ℕ) (rows : List Moves) (accepting : Accepting) (answers : List Bool) → HoldsStates given count → HoldsInitial given count state
    → HasAcceptingStates given count accepting → HasRows given size count rows → length answers ≡ length rows
    → ((place : ℕ) → IsTrue (get_or answers place false) ↔ IsAcceptingState accepting (suc place))
    → HasTable given size (record { initial = state; rows = rows; accepting = answers })
table_held given size count state rows accepting answers counted initial accepts has all each =
    let S : ℕ → Type 0 = λ n. HoldsStates given n in
    let I : ℕ → Type 0 = λ n. HoldsInitial given n state in
    let A : ℕ → Type 0 = λ n. HoldsAccepting given n answers in record {
      states = subst S (sym has.one_each) counted;
      initial = subst I (sym has.one_each) initial;
      accepting = subst A (sym has.one_each) (accepting_held given count accepting answers accepts (all ∙ has.one_each) each);
      moves = has.holds;
      symbols = λ k d inside j e here. (has.within k d inside j e here).0;
      is_table = table_of_rows given size count state rows answers has (initial_within given count state initial) all;
    }

pub table_fields : (given : Fields) (names : List (List ℕ)) (alphabet : Alphabet) (size : ℕ) (read : Table) → ((name : List ℕ) → ¬ HasFieldTwice (record_value given) name)
    → value_of given (codes "isFSA") ≡ Some (bare_name (codes "true")) → HasLetters given names alphabet size → HasTable given size read → HoldsTable given names alphabet read
table_fields given names alphabet size read once is_fsa letters table = record {
  once = once;
  is_fsa = is_fsa;
  letters = letters.letters;
  is_record = letters.is_record;
  size = size;
  lettered = letters.lettered;
  states = table.states;
  initial = table.initial;
  accepting = table.accepting;
  moves = table.moves;
}

-- the table of a plain alphabet is an automaton as it stands
pub plain_automaton : (n : ℕ) (alphabet : Alphabet) (read : Table) → alphabet ≡ Plain n → generators alphabet ≤ 65534 → IsTable read → HasSymbols (most_symbols alphabet) read
    → IsAutomaton (record { alphabet = alphabet; table = read })
plain_automaton n alphabet read is few table symbols =
    let A : Alphabet → Type 0 = λ a. IsAutomaton (record { alphabet = a; table = read }) in
    let G : Alphabet → Type 0 = λ a. generators a ≤ 65534 in
    let S : Alphabet → Type 0 = λ a. HasSymbols (most_symbols a) read in
    let all = subst S is symbols in
    subst A (sym is) (record { generators = subst G is few; table = table; symbols = all; texts = λ text some. words_over n read read.initial text table all some })
