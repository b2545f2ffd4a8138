-- The complement: its states are a state of the automaton, or 0, with which word of a pair has ended.
use Rattle.std.specs.Prelude.{◌≡◌, ℕ, ◌<◌, not, List, All, Option, Some, None}
use Rattle.kb_fsa.specs.declared.ended.Ended.{Ended}
use Rattle.kb_fsa.specs.declared.ended.Ended.TheVariants.{Neither}
use Rattle.kb_fsa.specs.EndedWords.{ended_after, IsInStride}
use Rattle.kb_fsa.specs.Table.{Ascends, lookup, step, is_accepting}
use Rattle.kb_fsa.specs.Language.{Automaton}
use Rattle.kb_explore.specs.Machine.{Machine}
use Rattle.kb_fsabool.specs.declared.place.Place.{Place}

-- the state with which word has ended, if the text is one of the alphabet so far
abbrev pub place_at : ℕ → Option Ended → Option Place
place_at state None = None
place_at state (Some ended) = Some (record { state = state; ended = ended })

-- the machine of the complement
abbrev pub complement : Automaton → Machine Place
complement automaton = record {
  start = Some (record { state = automaton.table.initial; ended = Neither });
  follow = λ place symbol. place_at (step automaton.table place.state symbol)
      (ended_after automaton.alphabet place.ended symbol);
  accepts = λ place. not (is_accepting automaton.table place.state);
}

-- the moves from the place by the symbols before this one
pub record AreMovesBefore (automaton : Automaton) (place : Place) (symbol : ℕ)
    (moves : List (ℕ × Place)) : Type 0 where
  pub ascends : Ascends moves
  pub below : All (λ move. move.0 < symbol) moves
  pub lookup : (other : ℕ) → other < symbol → lookup moves other
      ≡ place_at (step automaton.table place.state other)
      (ended_after automaton.alphabet place.ended other)
  pub in_stride : IsInStride automaton.alphabet place.ended symbol
