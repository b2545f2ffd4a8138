use Rattle.std.proofs.Common.{◌≡◌, ◌++◌, take}
use Rattle.std.specs.List.{flat_map}
use Rattle.kb_compose.specs.StatePairs.{joined_moves}
use Rattle.kb_compose.proofs.joining.push_moves.Given as goal

abbrev pub invariant-loop-entry : goal.invariant-loop-entry
invariant-loop-entry l =
    l.moves.items ≡ l.initial.moves.items ++ flat_map (joined_moves l.symbols.n l.second l.q) (take l.entry-index l.entry-items)
