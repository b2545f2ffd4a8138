-- The nondeterministic automaton of the first words of pairs.
use Rattle.std.specs.Prelude.{◌≡◌, ◌↔◌, ℕ, zero, suc, Bool, false, true, IsTrue, List, [], ◌∷◌, ◌++◌, length, map, get_or, Option, Some, None, if◌then◌else◌}
use Rattle.std.specs.List.{filter_map}
use Rattle.kb_word.specs.Relations.{IsOver}
use Rattle.kb_fsa.specs.declared.alphabet.Alphabet.TheVariants.{Plain}
use Rattle.kb_fsa.specs.Table.{Moves, Table, AcceptsFrom}
use Rattle.kb_fsa.specs.PairSymbols.{first_letter, pads_first}
use Rattle.kb_fsa.specs.Padding.{padded}
use Rattle.kb_fsa.specs.Language.{Automaton, generators}
use Rattle.kb_fsa.specs.Counted.{IsAfterFirst}
use Rattle.kb_fsadet.specs.Nondeterministic.{Nondeterministic, LeadsSomehow, accepts_at}

-- the move by the first letter alone, and none after the first word
abbrev pub by_first : ℕ → ℕ × ℕ → Option (ℕ × ℕ)
by_first n move = if pads_first n move.0 then None else Some (first_letter n move.0, move.1)

-- a state's move after the first word, taken backwards
abbrev pub tail_edge : ℕ → ℕ → ℕ × ℕ → Option (ℕ × ℕ)
tail_edge n state move = if pads_first n move.0 then Some (move.1, state) else None

-- those of all states from a number on
abbrev pub tail_edges : ℕ → ℕ → List Moves → List (ℕ × ℕ)
tail_edges n state [] = []
tail_edges n state (row ∷ rows) =
    filter_map (tail_edge n state) row ++ tail_edges n (suc state) rows

-- from the state the rest of some second word, after the first word, leads to acceptance
abbrev pub EndsFrom : ℕ → Table → ℕ → Type 0
EndsFrom n table state =
    (second : List ℕ) × (IsOver n second × AcceptsFrom table state (padded n [] second))

-- which of states 1, 2, and so on are such
pub record AreEnds (n : ℕ) (table : Table) (marks : List Bool) : Type 0 where
  pub one_each : length marks ≡ length table.rows
  pub ends : (place : ℕ) → (get_or marks place false ≡ true) ↔ EndsFrom n table (suc place)

-- the state, where it is one
abbrev pub where_some : ℕ → List ℕ
where_some zero = []
where_some (suc place) = suc place ∷ []

-- The table without the second words: it moves by the first letters, and accepts where a second word may end the pair.
abbrev pub first_words : ℕ → Table → List Bool → Nondeterministic
first_words n table ends = record {
  alphabet = Plain n;
  initial = where_some table.initial;
  rows = map (filter_map (by_first n)) table.rows;
  accepting = ends;
}

-- The automaton reads the first words: its states after a word are those of the pairs whose second word is no longer,
-- and it accepts where a longer one may end the pair.
pub record IsFirstWords (pairs : Automaton) (automaton : Nondeterministic) : Type 0 where
  pub alphabet : automaton.alphabet ≡ Plain (generators pairs.alphabet)
  pub among : (word : List ℕ) (state : ℕ)
      → LeadsSomehow automaton word state ↔ IsAfterFirst pairs word state
  pub accepts : (state : ℕ) → IsTrue (accepts_at automaton state)
      ↔ EndsFrom (generators pairs.alphabet) pairs.table state
