use Rattle.kb_leastpair.proofs.Pairs.{no_pair}
use Rattle.kb_leastpair.proofs.pair.least_pair.Goals as goal

pub returns-in_default-clause-none : goal.returns-in_default-clause-none
returns-in_default-clause-none c = no_pair c.args.pairs.now (rw c.in_default.is at c.in_ok-first.ensures.none)
