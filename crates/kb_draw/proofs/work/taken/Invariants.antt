use Rattle.kb_draw.specs.Workers.{AreTaken}
use Rattle.kb_draw.proofs.work.taken.Given as goal

-- the seats and the shares are those of the workers so far
abbrev pub invariant-loop-one : goal.invariant-loop-one
invariant-loop-one g l = AreTaken l.yielded l.seats.items l.shares.items
