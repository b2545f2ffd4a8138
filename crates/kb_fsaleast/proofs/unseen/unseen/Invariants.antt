use Rattle.std.proofs.Common.{take}
use Rattle.kb_fsaleast.specs.Marks.{AreUnseen}
use Rattle.kb_fsaleast.proofs.unseen.unseen.Given as goal

abbrev pub invariant-loop-state : goal.invariant-loop-state
invariant-loop-state l = AreUnseen l.fn.seen.items (take l.state-index l.states) l.fresh.items l.seen.items
