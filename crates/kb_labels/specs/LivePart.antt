-- The part of a table whose states lead to acceptance.
use Rattle.std.specs.Prelude.{ℕ, Bool, false, List, get_or, Option, Some, None, option_map, option_and_then, if◌then◌else◌}
use Rattle.std.specs.List.{filter_map}
use Rattle.kb_fsa.specs.Table.{Moves, Table, is_accepting, lookup, moves_of}
use Rattle.kb_explore.specs.Machine.{Machine}

-- the state, if it is marked
abbrev pub marked_state : List Bool → ℕ → Option ℕ
marked_state marks state = if get_or marks state false then Some state else None

-- the machine of the marked states, with the moves between them
abbrev pub marked_part : Table → List Bool → Machine ℕ
marked_part table marks = record {
  start = marked_state marks table.initial;
  follow = λ state symbol.
      option_and_then (marked_state marks) (lookup (moves_of table state) symbol);
  accepts = λ state. is_accepting table state;
}

-- the move, if its target is marked
abbrev pub marked_move : List Bool → ℕ × ℕ → Option (ℕ × ℕ)
marked_move marks move = option_map (λ state. (move.0, state)) (marked_state marks move.1)

-- the moves whose targets are marked
abbrev pub marked_moves : List Bool → Moves → Moves
marked_moves marks moves = filter_map (marked_move marks) moves
