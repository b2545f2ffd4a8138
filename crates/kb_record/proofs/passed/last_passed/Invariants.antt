use Rattle.kb_record.proofs.LastPassed.{Walked}
use Rattle.kb_record.proofs.passed.last_passed.Given as goal

abbrev pub invariant-loop-steps : goal.invariant-loop-steps
invariant-loop-steps l = Walked l.bytes l.passed l.steps l.last l.rest

abbrev pub decreases-loop-steps : goal.decreases-loop-steps
decreases-loop-steps l = l.steps
