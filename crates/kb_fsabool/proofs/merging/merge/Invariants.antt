use Rattle.std.proofs.Common.{◌+◌, length}
use Rattle.kb_fsabool.specs.Products.{IsMerging}
use Rattle.kb_fsabool.proofs.merging.merge.Given as goal

abbrev pub invariant-loop-symbol : goal.invariant-loop-symbol
invariant-loop-symbol l = IsMerging l.connective l.fn.first l.fn.second l.moves.items l.first l.second

abbrev pub decreases-loop-symbol : goal.decreases-loop-symbol
decreases-loop-symbol l = length l.first + length l.second
