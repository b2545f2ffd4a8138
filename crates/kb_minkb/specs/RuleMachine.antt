-- The machine of rules: the text of a pair leads to its place.
use Rattle.std.specs.Prelude.{ℕ, ◌+◌, ◌-◌, nat_eq, Bool, false, List, [], map, get_or, slice_get, zip, Option, Some, None, if◌then◌else◌}
use Rattle.kb_fsa.specs.declared.alphabet.Alphabet.TheVariants.{Pair}
use Rattle.kb_fsa.specs.Table.{step, is_accepting}
use Rattle.kb_fsa.specs.PairSymbols.{pair_symbol, first_letter, second_letter}
use Rattle.kb_fsa.specs.EndedWords.{is_symbol}
use Rattle.kb_fsa.specs.Language.{Automaton, generators}
use Rattle.kb_explore.specs.Machine.{Machine}
use Rattle.kb_minkb.specs.declared.place.LeftPlace.{LeftPlace}
use Rattle.kb_minkb.specs.declared.place.LeftPlace.TheVariants.{Start, End}
use Rattle.kb_minkb.specs.declared.pair_place.PairPlace.{PairPlace}
use Rattle.kb_minkb.specs.LeftMachine.{is_end, left_sides}
use Rattle.kb_minkb.specs.Rules.{has_state, states_after}

-- the states after a symbol more
abbrev pub next_states : List Automaton → List ℕ → ℕ → List ℕ
next_states multipliers states symbol =
    map (λ pair. step pair.0.table pair.1 symbol) (zip multipliers states)

-- the place of a text after which there are these states, unless there is none
abbrev pub place_with : LeftPlace → List ℕ → Option PairPlace
place_with left states =
    if has_state states then Some (record { left = left; states = states }) else None

-- the state after a text, and then a letter of the second word alone, if there is one
abbrev pub state_with : ℕ → Automaton → ℕ → ℕ → ℕ
state_with n multiplier state letter =
    if nat_eq letter (n + 1) then state
    else step multiplier.table state (pair_symbol n (n + 1) letter)

-- whether the multiplier, where there is one, then accepts
abbrev pub accepts_with : ℕ → Option Automaton → ℕ → ℕ → Bool
accepts_with n None state letter = false
accepts_with n (Some multiplier) state letter =
    is_accepting multiplier.table (state_with n multiplier state letter)

-- whether the symbol makes the text that of a rule, where its first letter makes a left side
abbrev pub makes_rule : ℕ → List Automaton → List ℕ → ℕ → Bool
makes_rule n multipliers states symbol =
    accepts_with n (slice_get multipliers (first_letter n symbol - 1))
    (get_or states (first_letter n symbol - 1) 0) (second_letter n symbol)

abbrev pub rule_place : Bool → Option PairPlace
rule_place makes = if makes then Some (record { left = End; states = [] }) else None

-- the place after the symbol, by the place of the first word with its first letter
abbrev pub place_by : ℕ → List Automaton → List ℕ → ℕ → Option LeftPlace → Option PairPlace
place_by n multipliers states symbol None = None
place_by n multipliers states symbol (Some left) =
    if is_end left then rule_place (makes_rule n multipliers states symbol)
    else place_with left (next_states multipliers states symbol)

-- the machine that leads the text of each pair to its place
abbrev pub rules : Automaton → List Automaton → Machine PairPlace
rules acceptor multipliers = record {
  start = place_with Start (states_after multipliers []);
  follow = λ place symbol. if is_symbol (Pair (generators acceptor.alphabet)) symbol
      then place_by (generators acceptor.alphabet) multipliers place.states symbol
      ((left_sides acceptor).follow place.left
      (first_letter (generators acceptor.alphabet) symbol))
      else None;
  accepts = λ place. is_end place.left;
}
