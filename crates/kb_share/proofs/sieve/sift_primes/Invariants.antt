use Rattle.kb_share.proofs.Sieving.{SiftedUpTo}
use Rattle.kb_share.proofs.sieve.sift_primes.Given as goal

-- the first prime overlaps are sifted
abbrev pub invariant-loop-overlap : goal.invariant-loop-overlap
invariant-loop-overlap g l = SiftedUpTo l.version l.from l.index l.overlaps l.overlap-index l.found.items
