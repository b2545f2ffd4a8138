-- One automaton of the states of two, those of the second numbered after those of the first.
use Rattle.std.specs.Prelude.{ℕ, zero, suc, ◌+◌, ◌-◌, List, [], ◌∷◌, ◌++◌, map, nat_le, if◌then◌else◌}
use Rattle.kb_fsa.specs.Table.{Table, is_accepting}
use Rattle.kb_fsa.specs.Counted.{OfTwo, of_first, of_second}

-- which state of the two it is that has the number, where the first automaton has so many
abbrev pub of_two : ℕ → ℕ → OfTwo
of_two count state = if nat_le state count then of_first state else of_second (state - count)

-- the initial state, if there is one
abbrev pub start_of : ℕ → List ℕ
start_of zero = []
start_of (suc place) = suc place ∷ []

-- the initial state of the second, by its number after so many
abbrev pub start_after : ℕ → ℕ → List ℕ
start_after count initial = map (λ state. count + state) (start_of initial)

-- the initial state of the table, and the other starts where the empty word is accepted
abbrev pub initial_with : Table → List ℕ → List ℕ
initial_with table starts =
    start_of table.initial ++ (if is_accepting table table.initial then starts else [])
