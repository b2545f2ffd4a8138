use Rattle.kb_bylog.proofs.LineLemmas.{same_joined}
use Rattle.kb_bylog.proofs.settling.is_joined.Goals as goal

pub returns : goal.returns
returns c =
    same_joined c.args.index.now.rules c.args.pair.now c.in_ok-u.u c.in_ok-v.v c.eq.result c.in_ok-u.ensures c.in_ok-v.ensures c.eq.ensures.same
