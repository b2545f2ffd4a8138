-- The machine that reads pairs of an acceptor's words, side by side, with their difference.
use Rattle.std.specs.Prelude.{ℕ, zero, suc, ◌+◌, ◌&&◌, nat_eq, if◌then◌else◌, List, Option, Some, None}
use Rattle.std.specs.List.{filter_map, flat_map, list_any}
use Rattle.std.specs.Option.{option_map}
use Rattle.kb_fsa.specs.Table.{Table, Moves, lookup}
use Rattle.kb_fsa.specs.PairSymbols.{pair_symbol, first_letter, second_letter}
use Rattle.kb_fsa.specs.EndedWords.{is_symbol}
use Rattle.kb_fsa.specs.declared.alphabet.Alphabet.TheVariants.{Pair}
use Rattle.kb_explore.specs.Machine.{Machine}
use Rattle.kb_diffwa.specs.declared.place.Place.{Place}
use Rattle.kb_diffwa.specs.Tracks.{may_end, track_moves}

-- the place of two tracks with a difference's number, and none where the number is 0
abbrev pub placed : ℕ → ℕ → ℕ → Option Place
placed first second zero = None
placed first second (suc index) =
    Some (record { first = first; second = second; difference = suc index })

-- the same, where each track leads somewhere
abbrev pub both_placed : Option ℕ → Option ℕ → ℕ → Option Place
both_placed None second difference = None
both_placed (Some p) None difference = None
both_placed (Some p) (Some q) difference = placed p q difference

-- both tracks begin at the acceptor's initial state, with the first difference, which is the empty word
abbrev pub start_at : ℕ → Option Place
start_at state = placed state state 1

-- The machine: a symbol leads each track on by its letter, and the difference by both, to one that is kept. Pairs are
-- accepted at differences of these numbers.
abbrev pub pairs : Table → ℕ → (ℕ → ℕ → ℕ → ℕ) → List ℕ → Machine Place
pairs table n step targets = record {
  start = if nat_eq table.initial 0 then None else start_at table.initial;
  follow = λ place symbol. if is_symbol (Pair n) symbol
      then both_placed (lookup (track_moves table n place.first) (first_letter n symbol))
      (lookup (track_moves table n place.second) (second_letter n symbol))
      (step place.difference (first_letter n symbol) (second_letter n symbol))
      else None;
  accepts = λ place.
      may_end table place.first && (may_end table place.second
      && list_any (λ target. nat_eq target place.difference) targets);
}

-- ---- the moves from a place

-- where two letters lead, each beside where it leads its track: nowhere by two paddings, or where no difference is kept
abbrev pub entered : (ℕ → ℕ → ℕ → ℕ) → ℕ → ℕ → ℕ × ℕ → ℕ × ℕ → Option Place
entered step n difference first second =
    if nat_eq first.0 (n + 1) && nat_eq second.0 (n + 1) then None else placed first.1 second.1
    (step difference first.0 second.0)

-- the move by two letters
abbrev pub move_by : (ℕ → ℕ → ℕ → ℕ) → ℕ → ℕ → ℕ × ℕ → ℕ × ℕ → Option (ℕ × Place)
move_by step n difference first second =
    option_map (λ (place : Place). (pair_symbol n first.0 second.0, place))
    (entered step n difference first second)

-- the moves by each first letter with each second one
abbrev pub crossed : (ℕ → ℕ → ℕ → ℕ) → ℕ → ℕ → Moves → Moves → List (ℕ × Place)
crossed step n difference firsts seconds =
    flat_map (λ first. filter_map (move_by step n difference first) seconds) firsts
