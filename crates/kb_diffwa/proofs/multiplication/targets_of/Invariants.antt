use Rattle.kb_diff.specs.Tables.{step_in}
use Rattle.kb_diffwa.specs.Multipliers.{AreTargets}
use Rattle.kb_diffwa.proofs.multiplication.targets_of.Given as goal

abbrev pub invariant-loop-index : goal.invariant-loop-index
invariant-loop-index l = AreTargets l.n (step_in l.machine) l.index l.targets.items
