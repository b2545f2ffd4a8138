use Rattle.kb_bylog.proofs.LineLemmas.{JoinedBefore}
use Rattle.kb_bylog.proofs.settling.are_joined.Given as goal

-- the pairs before this place are joined
abbrev pub invariant-loop-pair : goal.invariant-loop-pair
invariant-loop-pair l = JoinedBefore l.index.rules l.pairs l.pair-index
