-- Moves of an automaton of pairs that no padded text takes.
use Rattle.std.specs.Prelude.{◌≡◌, ◌≢◌, ℕ, ◌+◌, ◌*◌, ◌⊎◌, List, Any, length}
use Rattle.kb_fsa.specs.declared.alphabet.Alphabet.{Alphabet}
use Rattle.kb_fsa.specs.declared.alphabet.Alphabet.TheVariants.{Plain, Pair}
use Rattle.kb_fsa.specs.Table.{Table, IsTable, step, state_after, AcceptsFrom}
use Rattle.kb_fsa.specs.PairSymbols.{first_letter, second_letter}
use Rattle.kb_fsa.specs.Padding.{IsPadded}
use Rattle.kb_padding.specs.declared.error.PaddingFault.{PaddingFault}
use Rattle.kb_padding.specs.declared.error.PaddingFault.TheVariants as faults

-- the symbol has padding on the first track; on the second
abbrev pub PadsFirst : ℕ → ℕ → Type 0
PadsFirst n symbol = first_letter n symbol ≡ n + 1

abbrev pub PadsSecond : ℕ → ℕ → Type 0
PadsSecond n symbol = second_letter n symbol ≡ n + 1

-- behind the text the symbol has a letter after padding on one track, or it is two paddings
abbrev pub IsOutOfPlace : ℕ → List ℕ → ℕ → Type 0
IsOutOfPlace n text symbol = (Any (PadsFirst n) text × ¬ PadsFirst n symbol)
    ⊎ ((Any (PadsSecond n) text × ¬ PadsSecond n symbol)
    ⊎ (PadsFirst n symbol × PadsSecond n symbol))

-- some text takes the move of the state by the symbol where the symbol is out of place
pub record IsMisplaced (n : ℕ) (table : Table) (state symbol : ℕ) : Type 0 where
  pub text : List ℕ
  pub leads : state_after table text ≡ state
  pub some : step table state symbol ≢ 0
  pub out_of_place : IsOutOfPlace n text symbol

-- the move of the state by the symbol is misplaced, or the symbol is two paddings, which no padded text has
abbrev pub IsDropped : ℕ → Table → ℕ → ℕ → Type 0
IsDropped n table state symbol = IsMisplaced n table state symbol ⊎ (symbol ≡ (n + 1) * (n + 1))

-- the table is the other one without the moves that no padded text takes
pub record IsWithoutMisplaced (n : ℕ) (read table : Table) : Type 0 where
  pub is_table : IsTable table
  pub initial : table.initial ≡ read.initial
  pub accepting : table.accepting ≡ read.accepting
  pub size : length table.rows ≡ length read.rows
  pub dropped : (state symbol : ℕ) → IsDropped n read state symbol → step table state symbol ≡ 0
  pub kept : (state symbol : ℕ) → ¬ IsDropped n read state symbol
      → step table state symbol ≡ step read state symbol

-- The table of an automaton that a table as it was given makes: for words that table; for pairs that table
-- without the moves that no padded text takes, none of which may lie on an accepted text.
abbrev pub IsCleaned : Alphabet → Table → Table → Type 0
IsCleaned (Plain n) read table = table ≡ read
IsCleaned (Pair n) read table =
    IsWithoutMisplaced n read table
    × ((text : List ℕ) → AcceptsFrom read read.initial text → IsPadded n text)

-- why the table is refused: a text that it accepts isn't padded
abbrev pub IsPaddingFault : ℕ → Table → PaddingFault → Type 0
IsPaddingFault n read faults.Inside =
    (text : List ℕ) × AcceptsFrom read read.initial text × ¬ IsPadded n text
IsPaddingFault n read faults.Memory = Unit {0}
