use Rattle.std.proofs.Common.{length}
use Rattle.kb_compose.specs.StatePairs.{AreGroupMovesBefore}
use Rattle.kb_compose.proofs.grouping.grouped.Given as goal

abbrev pub invariant-loop-first : goal.invariant-loop-first
invariant-loop-first l = AreGroupMovesBefore l.alphabet l.ended l.moves l.rest l.places.items

abbrev pub decreases-loop-first : goal.decreases-loop-first
decreases-loop-first l = length l.rest
