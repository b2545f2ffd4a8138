use Rattle.kb_confluence.proofs.PrimeRows.{primes_all}
use Rattle.kb_confluence.proofs.prime_rows.PrimeRows.are_joined.Goals as goal

pub returns : goal.returns
returns g c = λ yes.
    primes_all c.args.self.now.rules.now c.args.i c.args.first.now c.args.overlaps.now c.requires.first c.requires.overlaps
    c.loop-overlap.overlap-index c.loop-overlap.invariant c.loop-overlap-test.false
