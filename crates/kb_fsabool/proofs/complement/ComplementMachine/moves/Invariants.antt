use Rattle.std.proofs.Common.{◌+◌, ◌-◌}
use Rattle.kb_fsabool.specs.Complements.{AreMovesBefore}
use Rattle.kb_fsabool.proofs.complement.ComplementMachine.moves.Given as goal

abbrev pub invariant-loop-symbol : goal.invariant-loop-symbol
invariant-loop-symbol l = AreMovesBefore l.self.fsa.now l.place l.symbol l.moves.items

abbrev pub decreases-loop-symbol : goal.decreases-loop-symbol
decreases-loop-symbol l = l.last + 1 - l.symbol
