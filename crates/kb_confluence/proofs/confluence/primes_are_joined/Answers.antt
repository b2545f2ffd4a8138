use Rattle.std.proofs.Common.{subst}
use Rattle.kb_overlap.specs.Composite.{PrimesAreJoined}
use Rattle.kb_index.proofs.Sides.{have_lefts}
use Rattle.kb_confluence.proofs.PrimeRows.{all_rows}
use Rattle.kb_confluence.proofs.confluence.primes_are_joined.Goals as goal

pub of-requires : goal.of-requires
of-requires g c = have_lefts _ _ _ c.as_slice.ensures.decreasing c.as_slice.ensures.rules

pub returns : goal.returns
returns g c = λ yes.
    subst PrimesAreJoined c.of-rows.ensures
    (all_rows c.of-rows.result.rules.now c.in_ok-shares.shares.items c.in_ok-shares.ensures.done
    (rw c.deref.ensures.value at (c.all_joined.ensures yes)))
