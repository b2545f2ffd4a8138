use Rattle.kb_layout.proofs.PrintedPieces.{IsListUpTo}
use Rattle.kb_presprint.proofs.Writings.{weight_place}
use Rattle.kb_presprint.proofs.writer.write_weights.Given as goal

abbrev pub invariant-loop-weight : goal.invariant-loop-weight
invariant-loop-weight l = IsListUpTo weight_place l.weights l.fn.out.items l.weight-index l.before l.out.items
