use Rattle.std.proofs.Common.{◌≡◌, length}
use Rattle.kb_minkb.specs.Progress.{first_states}
use Rattle.kb_minkb.proofs.rules.next_states.Given as goal

abbrev pub invariant-loop-multiplier : goal.invariant-loop-multiplier
invariant-loop-multiplier l = l.next.items ≡ first_states l.multipliers l.states l.symbol (length l.yielded)
