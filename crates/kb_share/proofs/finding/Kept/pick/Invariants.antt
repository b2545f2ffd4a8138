use Rattle.kb_share.proofs.finding.Kept.pick.Given as goal
use Rattle.kb_share.specs.Finding.{PicksBelow}

-- of the first places
abbrev pub invariant-loop-place : goal.invariant-loop-place
invariant-loop-place l = PicksBelow l.place l.self.numbers.items l.signature-items l.factor.bits l.picked.items
