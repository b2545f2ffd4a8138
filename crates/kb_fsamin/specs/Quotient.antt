-- The quotient of a table by the classes of states with one right language.
use Rattle.std.specs.Prelude.{ℕ, zero, suc, List, Option, Some, None, option_map}
use Rattle.std.specs.List.{filter_map}
use Rattle.kb_fsa.specs.Table.{Moves, Table, is_accepting, step}
use Rattle.kb_fsamin.specs.Classes.{representative}
use Rattle.kb_explore.specs.Machine.{Machine}

-- the state of the number, where 0 is that of none
abbrev pub some_state : ℕ → Option ℕ
some_state zero = None
some_state (suc place) = Some (suc place)

-- the machine whose states are the representatives: each target is replaced by its representative,
-- and left out where it has none
abbrev pub quotient_of : Table → List ℕ → Machine ℕ
quotient_of table listed = record {
  start = some_state (representative listed table.initial);
  follow = λ state symbol. some_state (representative listed (step table state symbol));
  accepts = λ state. is_accepting table state;
}

-- the move with its target replaced by the target's representative, and none where it has none
abbrev pub represented_move : List ℕ → ℕ × ℕ → Option (ℕ × ℕ)
represented_move listed move =
    option_map (λ class. (move.0, class)) (some_state (representative listed move.1))

-- the moves with each target replaced by its representative, and without those whose target has none
abbrev pub represented_moves : List ℕ → Moves → Moves
represented_moves listed moves = filter_map (represented_move listed) moves
