use Rattle.kb_diff.specs.Tables.{step_in}
use Rattle.kb_diffwa.proofs.StepPairs.{ArePairsUpTo}
use Rattle.kb_diffwa.proofs.sparse_steps.pairs_of.Given as goal

abbrev pub invariant-loop-index : goal.invariant-loop-index
invariant-loop-index l = ArePairsUpTo l.n (step_in l.machine) l.difference l.a l.index l.pairs.items
