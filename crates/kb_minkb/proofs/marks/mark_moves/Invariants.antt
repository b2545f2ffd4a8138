use Rattle.kb_minkb.specs.Marks.{AreFirstMovesMarked}
use Rattle.kb_minkb.proofs.marks.mark_moves.Given as goal

abbrev pub invariant-loop-entry : goal.invariant-loop-entry
invariant-loop-entry l = AreFirstMovesMarked l.entry-items l.entry-index l.initial.marks.items l.marks.items
