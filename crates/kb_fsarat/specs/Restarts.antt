-- Moves that lead on from where a word is accepted to where another word starts.
use Rattle.std.specs.Prelude.{ℕ, ◌+◌, List, [], ◌∷◌, map, if◌then◌else◌}
use Rattle.std.specs.List.{flat_map}
use Rattle.kb_fsa.specs.Table.{Moves, Table, is_accepting}

-- the move, and where it leads to acceptance also moves by its symbol to each start
abbrev pub with_restarts : Table → List ℕ → ℕ × ℕ → Moves
with_restarts table starts move =
    move ∷ (if is_accepting table move.1 then map (λ start. (move.0, start)) starts else [])

-- so for each of the moves
abbrev pub restarting : Table → List ℕ → Moves → Moves
restarting table starts moves = flat_map (with_restarts table starts) moves

-- the same moves between states that are numbered after so many others
abbrev pub shifted : ℕ → Moves → Moves
shifted count moves = map (λ move. (move.0, count + move.1)) moves
