use Rattle.kb_confluence.specs.Shares.{IsEarliestOf}
use Rattle.kb_confluence.proofs.shares.earliest.Given as goal

-- the earliest verdict of the shares so far
abbrev pub invariant-loop-share : goal.invariant-loop-share
invariant-loop-share l = IsEarliestOf l.yielded l.earliest
