use Rattle.kb_overlap.proofs.Collecting.{CollectsBelow}
use Rattle.kb_overlap.proofs.walk.add_overlaps.Given as goal

-- the overlaps at the places so far were added
abbrev pub invariant-loop-place : goal.invariant-loop-place
invariant-loop-place l = CollectsBelow l.place l.sides l.letters l.found.items
