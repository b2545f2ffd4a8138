use Rattle.std.proofs.Common.{arith}
use Rattle.kb_proof.proofs.Listed.{got_some, got_none}
use Rattle.kb_proof.proofs.verifying.numbered.relation_numbered.Goals as goal

pub returns-clause-some : goal.returns-clause-some
returns-clause-some c =
    let from = c.in_ok-index.ensures in
    got_some c.args.relations.now c.args.number c.in_ok-index.index c.get.result (omega arith) c.get.ensures.lookup.3

pub returns-clause-none : goal.returns-clause-none
returns-clause-none c =
    let from = c.in_ok-index.ensures in
    got_none c.args.relations.now c.args.number c.in_ok-index.index c.get.result (omega arith) c.get.ensures.lookup.3
