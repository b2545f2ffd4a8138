-- The machine of a table: where texts lead in it, its moves, and that its exploration accepts what the table does.
use Rattle.std.proofs.Common.{◌≡◌, ◌↔◌, ℕ, zero, suc, ◌<◌, ◌≤◌, IsTrue, List, [], ◌∷◌, Some, refl, sym, ap, ◌∙◌, subst, arith}
use Rattle.std.specs.List.{All}
use Rattle.std.proofs.lemmas.List.Elements.{All-nil}
use Rattle.std.proofs.lemmas.Option.{none-some, same_Some}
use Rattle.kb_fsa.specs.Table.{Moves, Table, IsTable, IsRow, HasSymbols, lookup, target, moves_of, is_accepting, step, after, state_after, AcceptsFrom}
use Rattle.kb_fsa.proofs.Lookups.{lookup_from_target, lookup_from_no_target, All-moves_of, IsRow-moves_of, after_none, accepting_positive}
use Rattle.kb_explore.specs.Machine.{AreMovesOf, MachineAccepts, lead, leads}
use Rattle.kb_explore.specs.Exploration.{IsExploration}
use Rattle.kb_explore.proofs.ExplorationLemmas.{accepts_same}
use Rattle.kb_fsa.specs.declared.alphabet.Alphabet.{Alphabet}
use Rattle.kb_fsafile.specs.Languages.{some_state, machine_of, AcceptSame, IsCleanedAs, LanguageOf}
use Rattle.kb_fsafile.specs.RowsRead.{TableOf}

some_state_is : (state : ℕ) → 0 < state → some_state state ≡ Some state
some_state_is zero positive = absurd (let no : ⊥ = omega arith in no)
some_state_is (suc place) positive = refl

pub state_from_some : (state number : ℕ) → some_state state ≡ Some number → state ≡ number
state_from_some zero number e = absurd (none-some number e)
state_from_some (suc place) number e = same_Some (suc place) number e

-- ---- where texts lead

leads_on : (table : Table) (state : ℕ) (text : List ℕ) → lead (machine_of table) (some_state state) text ≡ some_state (after table state text)
leads_on table zero text = sym (ap some_state (after_none table text))
leads_on table (suc place) [] = refl
leads_on table (suc place) (symbol ∷ text) = leads_on table (step table (suc place) symbol) text

pub leads_machine : (table : Table) (text : List ℕ) → leads (machine_of table) text ≡ some_state (state_after table text)
leads_machine table text = leads_on table table.initial text

-- the machine accepts what the table does
machine_accepts : (table : Table) (text : List ℕ) → MachineAccepts (machine_of table) text ↔ AcceptsFrom table table.initial text
machine_accepts table text = (
  λ accepts.
      let P : ℕ → Type 0 = λ state. IsTrue (is_accepting table state) in
      subst P (sym (state_from_some (state_after table text) accepts.state (sym (leads_machine table text) ∙ accepts.leads_there))) accepts.accepts,
  λ accepts. record {
    state = state_after table text;
    leads_there = leads_machine table text ∙ some_state_is (state_after table text) (accepting_positive table (state_after table text) accepts);
    accepts = accepts;
  },
)

-- and so does its exploration
pub explored_same : (read table : Table) (states : List ℕ) (origins : List (ℕ × ℕ)) → IsExploration (machine_of read) table states origins → AcceptSame read table
explored_same read table states origins explored text =
    let whole = machine_accepts read text in
    let part = accepts_same explored text in
    (λ accepts. part.1 (whole.1 accepts), λ accepts. whole.0 (part.0 accepts))

-- ---- moves

lookup_some : (moves : Moves) (symbol : ℕ) → IsRow moves → lookup moves symbol ≡ some_state (target moves symbol)
lookup_some moves symbol row = go (target moves symbol) refl
  where
    go : (state : ℕ) → target moves symbol ≡ state → lookup moves symbol ≡ some_state state
    go zero none = lookup_from_no_target moves symbol row none
    go (suc place) some = lookup_from_target moves symbol (suc place) (omega arith) some

-- the moves of a state
pub table_moves : (table : Table) (size state : ℕ) → IsTable table → HasSymbols size table → AreMovesOf (machine_of table) size state (moves_of table state)
table_moves table size state is symbols =
    let row = IsRow-moves_of table state is in
    let few = All-moves_of (λ (ms : Moves). All (λ (m : ℕ × ℕ). m.0 ≤ size) ms) table state (All-nil (λ (m : ℕ × ℕ). m.0 ≤ size)) symbols in record {
      ascends = row.ascends;
      symbols = λ k d within. ((row.numbers k d within).0, few k d within);
      follow = λ symbol. lookup_some (moves_of table state) symbol row;
    }

-- ---- automata of one language

-- what a text says accepts what a table does that accepts what the cleaned one does
pub language_said : (bytes : List ℕ) (names : List (List ℕ)) (alphabet : Alphabet) (read made : Table) → TableOf bytes names alphabet read
    → IsCleanedAs alphabet read made → LanguageOf bytes names (record { alphabet = alphabet; table = made })
language_said bytes names alphabet read made of_text cleaned = record {
  said = record { alphabet = alphabet; table = cleaned.table };
  says = record {
    text = of_text.text;
    formed = of_text.formed;
    shallow = of_text.shallow;
    holds = record { read = read; holds = of_text.has.holds; cleaned = cleaned.cleaned };
  };
  alphabet = refl;
  language = cleaned.same;
}
