use Rattle.kb_overlap.specs.Sides.{InOrder}
use Rattle.kb_overlap.proofs.Walking.{IsWalkSoFar}
use Rattle.kb_overlap.proofs.walk.add_at_place.Given as goal

-- what was added and what the rest of the walk adds make up the whole walk
abbrev pub invariant-loop-depth : goal.invariant-loop-depth
invariant-loop-depth l =
    InOrder l.depth l.begun × IsWalkSoFar l.sides l.letters l.place l.fn.found.items l.depth l.begun l.found.items
