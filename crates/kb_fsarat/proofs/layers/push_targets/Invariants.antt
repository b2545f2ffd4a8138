use Rattle.std.proofs.Common.{◌≡◌, ◌++◌, map, take}
use Rattle.kb_fsarat.proofs.layers.push_targets.Given as goal

-- where the moves so far lead is added
abbrev pub invariant-loop-target : goal.invariant-loop-target
invariant-loop-target l = l.states.items ≡ l.initial.states.items ++ map (λ move. move.1) (take l.target-index l.moves)
