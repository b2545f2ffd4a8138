use Rattle.std.proofs.Common.{◌≡◌, ◌++◌, map, take}
use Rattle.kb_overlap.specs.Sides.{at_place}
use Rattle.kb_overlap.proofs.walk.add.Given as goal

-- an overlap was added for each left side so far
abbrev pub invariant-loop-side : goal.invariant-loop-side
invariant-loop-side l = l.found.items ≡ l.fn.found.items ++ map (at_place l.place) (take l.side-index l.sides)
