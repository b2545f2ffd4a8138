use Rattle.std.proofs.Common.{arith}
use Rattle.kb_axioms.proofs.GroupAutomata.{all_read, multipliers_read}
use Rattle.kb_axioms.proofs.fitting.are_multipliers.Goals as goal

pub returns-then-multipliers-from : goal.returns-then-multipliers-from
returns-then-multipliers-from c =
    let n = c.args.n in
    let multipliers = c.args.multipliers.now in (
      λ yes. record {
        one_each = omega (arith, c.if-multipliers-from.true, c.from.ensures);
        pairs = multipliers_read n multipliers (c.read_pairs.ensures.0 yes);
      },
      λ are. c.read_pairs.ensures.1 (all_read n multipliers are.pairs),
    )
