use Rattle.kb_diff.specs.Groups.{EachInverts}
use Rattle.kb_axioms.proofs.fitting.is_group.Given as goal

abbrev pub invariant-loop-place : goal.invariant-loop-place
invariant-loop-place l = EachInverts l.place l.presentation.inv
