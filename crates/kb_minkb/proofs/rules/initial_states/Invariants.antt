use Rattle.kb_minkb.specs.Progress.{AreInitialStates}
use Rattle.kb_minkb.proofs.rules.initial_states.Given as goal

abbrev pub invariant-loop-multiplier : goal.invariant-loop-multiplier
invariant-loop-multiplier l = AreInitialStates l.multipliers l.multiplier-index l.states.items
