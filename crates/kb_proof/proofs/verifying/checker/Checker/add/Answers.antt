use Rattle.std.proofs.Common.{refl}
use Rattle.kb_proof.proofs.Keeping.{knows_more}
use Rattle.kb_proof.proofs.verifying.checker.Checker.add.Goals as goal

pub returns : goal.returns
returns c =
    let old = c.args.self.now in
    knows_more old (record { relations = old.relations; rules = c.push.new.self; marks = c.add.new.self }) c.args.line.now c.add.result
    refl c.in_ok-push.ensures.order c.in_ok-push.ensures.rules c.add.ensures
