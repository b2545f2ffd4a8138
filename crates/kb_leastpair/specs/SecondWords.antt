-- The machine of the second words that an automaton of pairs accepts beside a first word, from a place and a state on.
use Rattle.std.specs.Prelude.{◌≡◌, ℕ, zero, suc, ◌+◌, ◌<◌, min, List, [], length, get_or, drop, All, Option, Some, None, if◌then◌else◌}
use Rattle.kb_fsa.specs.declared.alphabet.Alphabet.TheVariants.{Plain}
use Rattle.kb_fsa.specs.Table.{Table, Ascends, after, is_accepting, lookup, step}
use Rattle.kb_fsa.specs.PairSymbols.{pair_symbol}
use Rattle.kb_fsa.specs.Padding.{padded}
use Rattle.kb_fsa.specs.EndedWords.{is_symbol}
use Rattle.kb_explore.specs.Machine.{Machine}
use Rattle.kb_leastpair.specs.declared.reading.Reading.{Reading}

-- so many letters of the first word are read, and the automaton is in a state, if it is one
abbrev pub reading_at : ℕ → ℕ → Option Reading
reading_at place zero = None
reading_at place (suc state) = Some (record { place = place; state = suc state })

-- where the reading goes on by a letter of the second word; past the first word's end that is padded
abbrev pub read_on : ℕ → Table → List ℕ → Reading → ℕ → Option Reading
read_on n table first reading letter = reading_at (min (reading.place + 1) (length first))
    (step table reading.state (pair_symbol n (get_or first reading.place (n + 1)) letter))

-- The machine reads second words over n generators, beginning at a place of the first word and in a state. A word may
-- end where the rest of the first one leads to acceptance.
abbrev pub second_words : ℕ → Table → List ℕ → ℕ → ℕ → Machine Reading
second_words n table first place state = record {
  start = reading_at place state;
  follow = λ reading letter.
      if is_symbol (Plain n) letter then read_on n table first reading letter else None;
  accepts = λ reading.
      is_accepting table (after table reading.state (padded n (drop reading.place first) []));
}

-- the moves by the letters before this one
pub record AreMovesBefore (n : ℕ) (table : Table) (first : List ℕ) (reading : Reading)
    (letter : ℕ) (moves : List (ℕ × Reading)) : Type 0 where
  pub ascends : Ascends moves
  pub letters : All (λ move. (0 < move.0) × (move.0 < letter)) moves
  pub lookup : (other : ℕ) → 0 < other → other < letter
      → lookup moves other ≡ read_on n table first reading other
