use Rattle.std.proofs.Common.{length}
use Rattle.kb_fsadet.specs.SubsetConstruction.{AreGroupedBefore}
use Rattle.kb_fsadet.proofs.subset.grouped.Given as goal

abbrev pub invariant-loop-first : goal.invariant-loop-first
invariant-loop-first l = AreGroupedBefore l.moves l.rest l.groups.items

abbrev pub decreases-loop-first : goal.decreases-loop-first
decreases-loop-first l = length l.rest
