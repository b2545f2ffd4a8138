use Rattle.kb_diff.specs.Tables.{AreStepsOf}
use Rattle.kb_diff.proofs.differences.Differences.machine.Given as goal

-- the table has the steps from the differences before this one
abbrev pub invariant-loop-difference : goal.invariant-loop-difference
invariant-loop-difference g l = AreStepsOf l.self.group l.self.words l.difference-index l.table.items
