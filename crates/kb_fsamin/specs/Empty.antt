-- The canonical table of the empty language.
use Rattle.std.specs.Prelude.{false, [], ◌∷◌}
use Rattle.kb_fsa.specs.Table.{Table}

-- one state, without a move, that doesn't accept
abbrev pub empty_table : Table
empty_table = record { initial = 1; rows = [] ∷ []; accepting = false ∷ [] }
