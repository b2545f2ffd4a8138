use Rattle.std.proofs.Common.{◌≡◌, map, take}
use Rattle.kb_compose.proofs.grouping.targets_of.Given as goal

abbrev pub invariant-loop-target : goal.invariant-loop-target
invariant-loop-target l = l.targets.items ≡ map (λ entry. entry.1) (take l.target-index l.moves)
