use Rattle.kb_draw.specs.Earliest.{IsEarliestOf}
use Rattle.kb_draw.proofs.search.earliest.Given as goal

-- the earliest of the shares so far
abbrev pub invariant-loop-share : goal.invariant-loop-share
invariant-loop-share g l = IsEarliestOf l.places l.yielded l.earliest
