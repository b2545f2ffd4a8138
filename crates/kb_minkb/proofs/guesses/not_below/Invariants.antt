use Rattle.std.proofs.Common.{length, ◌-◌}
use Rattle.kb_minkb.proofs.guesses.not_below.Given as goal

abbrev pub decreases-loop-place : goal.decreases-loop-place
decreases-loop-place l = length l.moves - l.place
