use Rattle.kb_fsa.specs.Graphs.{AreLinked}
use Rattle.kb_fsamin.proofs.incoming.Incoming.new.Given as goal

abbrev pub invariant-loop-edge : goal.invariant-loop-edge
invariant-loop-edge l = AreLinked l.edges l.edge-index l.states l.last.items l.earlier.items
