use Rattle.kb_diff.specs.Groups.{EachInverts}
use Rattle.kb_task.proofs.loading.presentations.first_without_inverse.Given as goal

-- the generators so far have inverses
abbrev pub invariant-loop-place : goal.invariant-loop-place
invariant-loop-place l = EachInverts l.place l.presentation.inv
