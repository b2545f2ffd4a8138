use Rattle.kb_diff.specs.Tables.{step_in}
use Rattle.kb_diffwa.specs.RivalSets.{AreStepsBy}
use Rattle.kb_diffwa.proofs.sparse_steps.steps_by.Given as goal

abbrev pub invariant-loop-index : goal.invariant-loop-index
invariant-loop-index l = AreStepsBy l.n (step_in l.machine) l.index l.a l.steps
