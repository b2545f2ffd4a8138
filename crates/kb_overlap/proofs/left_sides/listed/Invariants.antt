use Rattle.kb_overlap.specs.Sides.{IsListed}
use Rattle.kb_overlap.proofs.left_sides.listed.Given as goal

-- the left sides of the rules so far are listed
abbrev pub invariant-loop-rule : goal.invariant-loop-rule
invariant-loop-rule l = IsListed l.rules l.rule l.sides.items
