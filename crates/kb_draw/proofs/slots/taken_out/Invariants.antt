use Rattle.std.proofs.Common.{◌≡◌, map, Some}
use Rattle.kb_draw.proofs.slots.taken_out.Given as goal

-- what is taken out so far
abbrev pub invariant-loop-slot : goal.invariant-loop-slot
invariant-loop-slot g l = map Some l.list.items ≡ l.yielded
