use Rattle.std.proofs.Common.{◌≡◌, map, take}
use Rattle.kb_compose.specs.Along.{twice}
use Rattle.kb_compose.proofs.identity.rows_of_pairs.Given as goal

abbrev pub invariant-loop-place : goal.invariant-loop-place
invariant-loop-place l = l.pairs ≡ map (map (twice l.symbols.n)) (take l.place l.rows)
