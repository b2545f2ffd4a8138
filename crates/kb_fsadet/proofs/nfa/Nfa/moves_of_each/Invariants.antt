use Rattle.std.proofs.Common.{◌≡◌, take}
use Rattle.std.specs.List.{flat_map}
use Rattle.kb_fsadet.specs.Nondeterministic.{moves_at}
use Rattle.kb_fsadet.proofs.nfa.Nfa.moves_of_each.Given as goal

abbrev pub invariant-loop-state : goal.invariant-loop-state
invariant-loop-state l = l.moves.items ≡ flat_map (moves_at l.rows) (take l.state-index l.states)
