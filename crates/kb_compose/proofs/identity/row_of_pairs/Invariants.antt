use Rattle.std.proofs.Common.{◌≡◌, map, take}
use Rattle.kb_compose.specs.Along.{twice}
use Rattle.kb_compose.proofs.identity.row_of_pairs.Given as goal

abbrev pub invariant-loop-letter : goal.invariant-loop-letter
invariant-loop-letter l = l.pairs.items ≡ map (twice l.symbols.n) (take l.letter-index l.row)
