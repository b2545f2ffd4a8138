use Rattle.kb_minkb.specs.LeftMachine.{left_sides}
use Rattle.kb_minkb.specs.Progress.{AreMovesBefore}
use Rattle.kb_minkb.proofs.left_sides.LeftSidesMachine.moves.Given as goal

abbrev pub invariant-loop-letter : goal.invariant-loop-letter
invariant-loop-letter l = AreMovesBefore (left_sides l.self.acceptor.now) l.place l.letter l.moves.items
