use Rattle.std.proofs.Common.{arith}
use Rattle.kb_fsamin.proofs.partition.Partition.relabel.Goals as goal

pub returns-clause-of : goal.returns-clause-of
returns-clause-of c =
    let done = c.loop-place.invariant.relabelled in
    let bounds = c.requires.range in
    record {
      one_each = done.one_each;
      inside = λ item h above below. done.inside item h above (omega (arith, c.loop-place-test.false));
      outside = λ item h out. done.outside item h (λ above below. out above (omega (arith, c.loop-place.auto.place-end)));
    }
