use Rattle.std.proofs.Common.{◌≡◌, take}
use Rattle.kb_compose.specs.StatePairs.{moves_of_pairs}
use Rattle.kb_compose.proofs.joining.moves_of_pairs.Given as goal

abbrev pub invariant-loop-pair : goal.invariant-loop-pair
invariant-loop-pair l = l.moves.items ≡ moves_of_pairs l.symbols.n l.first l.second (take l.pair-index l.pairs)
