use Rattle.kb_confluence.proofs.Checking.{AreJoinedBefore}
use Rattle.kb_confluence.proofs.prime_rows.PrimeRows.are_joined.Given as goal

-- the overlaps of the row so far are joined
abbrev pub invariant-loop-overlap : goal.invariant-loop-overlap
invariant-loop-overlap g l = AreJoinedBefore l.self.rules.now l.i l.first l.overlaps l.overlap-index
