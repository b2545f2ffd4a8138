use Rattle.std.proofs.Common.{◌≡◌, ◌++◌, map, take}
use Rattle.kb_fsarat.proofs.restarts.push_to_each.Given as goal

-- there are moves to the states so far
abbrev pub invariant-loop-state : goal.invariant-loop-state
invariant-loop-state l = l.row ≡ l.initial.row ++ map (λ state. (l.symbol, state)) (take l.state-index l.states)
