use Rattle.kb_cmd_completion.proofs.AbelianLemmas.{next_appended}
use Rattle.kb_cmd_completion.proofs.free_abelian.append_commuting.Goals as goal

pub loop-j-preserved : goal.loop-j-preserved
loop-j-preserved c =
    next_appended c.args.i c.loop-j.j c.args.n c.args.equations.now.items c.loop-j.equations.items c.push.new.self.items c.in_ok-commutes.field-0
    c.loop-j.invariant.0 c.loop-j-test.true c.loop-j.invariant.2 c.in_ok-commutes.ensures c.in_ok-push.ensures.items
