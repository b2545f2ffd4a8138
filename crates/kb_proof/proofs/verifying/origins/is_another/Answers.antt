use Rattle.std.proofs.Common.{arith}
use Rattle.kb_proof.proofs.Factors.{another_at}
use Rattle.kb_proof.proofs.verifying.origins.is_another.Goals as goal

pub returns : goal.returns
returns c =
    another_at c.args.lines.now c.args.number c.args.index c.args.word.now c.index-lines-index.result c.factor_at.result c.is_some.result
    c.requires c.index-lines-index.is (λ same. let from = c.from.ensures in c.if-index-from.false (omega arith)) c.factor_at.ensures.found
    c.factor_at.ensures.none c.is_some.ensures
