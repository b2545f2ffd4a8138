use Rattle.kb_fsa.specs.Graphs.{AreLinked}
use Rattle.kb_fsa.proofs.links.link.Given as goal

abbrev pub invariant-loop-edge : goal.invariant-loop-edge
invariant-loop-edge l = AreLinked l.edges l.edge-index l.count l.last.items l.earlier.items
