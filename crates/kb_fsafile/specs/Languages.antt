-- Automata of the same language as the one that a file holds, and the table of a file as a machine.
use Rattle.std.specs.Prelude.{◌≡◌, ◌↔◌, ℕ, zero, suc, List, Option, Some, None}
use Rattle.kb_fsa.specs.declared.alphabet.Alphabet.{Alphabet}
use Rattle.kb_fsa.specs.Table.{Table, step, is_accepting, AcceptsFrom}
use Rattle.kb_fsa.specs.Language.{Automaton, SameLanguage}
use Rattle.kb_explore.specs.Machine.{Machine}
use Rattle.kb_explore.specs.Exploration.{IsExploration}
use Rattle.kb_padding.specs.Misplaced.{IsCleaned}
use Rattle.kb_fsafile.specs.Holds.{AutomatonOf}

-- the state of the number, where 0 stands for none
abbrev pub some_state : ℕ → Option ℕ
some_state zero = None
some_state (suc place) = Some (suc place)

-- the table as a machine, whose states are the table's numbers
abbrev pub machine_of : Table → Machine ℕ
machine_of table = record {
  start = some_state table.initial;
  follow = λ state symbol. some_state (step table state symbol);
  accepts = λ state. is_accepting table state;
}

-- the tables accept the same texts
abbrev pub AcceptSame : Table → Table → Type 0
AcceptSame one other =
    (text : List ℕ) → AcceptsFrom one one.initial text ↔ AcceptsFrom other other.initial text

-- the table has the states that texts lead to, by new numbers
abbrev pub IsReachedPart : Table → Table → Type 0
IsReachedPart read part =
    (states : List ℕ) × (origins : List (ℕ × ℕ)) × IsExploration (machine_of read) part states origins

-- the table accepts the same texts as that of an automaton, which a table as it was given makes
pub record IsCleanedAs (alphabet : Alphabet) (read made : Table) : Type 0 where
  pub table : Table
  pub cleaned : IsCleaned alphabet read table
  pub same : AcceptSame table made

-- the bytes are a text that says an automaton of the same language, over letters with these names
pub record LanguageOf (bytes : List ℕ) (names : List (List ℕ))
    (automaton : Automaton) : Type 0 where
  pub said : Automaton
  pub says : AutomatonOf bytes names said
  pub alphabet : automaton.alphabet ≡ said.alphabet
  pub language : SameLanguage said automaton
