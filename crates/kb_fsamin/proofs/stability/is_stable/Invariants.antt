use Rattle.kb_fsamin.specs.Rounds.{AreStoodFor}
use Rattle.kb_fsamin.proofs.stability.is_stable.Given as goal

abbrev pub invariant-loop-place : goal.invariant-loop-place
invariant-loop-place l = AreStoodFor l.table l.classes l.place
