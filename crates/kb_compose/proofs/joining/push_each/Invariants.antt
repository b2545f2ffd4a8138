use Rattle.std.proofs.Common.{◌≡◌, ◌++◌, take}
use Rattle.std.specs.List.{filter_map}
use Rattle.kb_compose.specs.StatePairs.{joined}
use Rattle.kb_compose.proofs.joining.push_each.Given as goal

abbrev pub invariant-loop-other : goal.invariant-loop-other
invariant-loop-other l =
    l.moves.items ≡ l.initial.moves.items ++ filter_map (joined l.symbols.n l.entry) (take l.other-index l.others)
