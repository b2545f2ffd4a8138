use Rattle.std.proofs.Common.{arith}
use Rattle.kb_diffwa.proofs.StepPairs.{nothing_from}
use Rattle.kb_diffwa.proofs.rival_sets.pairs_from.Goals as goal

pub returns-in-None : goal.returns-in-None
returns-in-None c =
    nothing_from c.args.steps.now c.args.difference (omega (arith, c.if-difference-eq0.false)) c.in-None.ensures
