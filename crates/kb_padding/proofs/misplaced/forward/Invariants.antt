use Rattle.kb_padding.specs.Cleaning.{AreForward}
use Rattle.kb_padding.proofs.misplaced.forward.Given as goal

abbrev pub invariant-loop-target : goal.invariant-loop-target
invariant-loop-target l = AreForward l.backward l.target-index l.count l.edges.items l.latest.items
