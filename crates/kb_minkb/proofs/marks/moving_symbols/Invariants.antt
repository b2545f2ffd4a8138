use Rattle.std.proofs.Common.{length}
use Rattle.kb_minkb.specs.Marks.{AreFirstMarked}
use Rattle.kb_minkb.proofs.marks.moving_symbols.Given as goal

abbrev pub invariant-loop-multiplier : goal.invariant-loop-multiplier
invariant-loop-multiplier l = AreFirstMarked l.multipliers l.states (length l.yielded) l.marks.items
