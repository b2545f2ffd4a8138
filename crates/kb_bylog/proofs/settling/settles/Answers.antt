use Rattle.kb_bylog.proofs.LineLemmas.{if_ok, no_answers, no_settles, not_so, settles_by}
use Rattle.kb_bylog.proofs.settling.settles.Goals as goal

pub returns-then-joined : goal.returns-then-joined
returns-then-joined g c = if_ok c.is_confluent.result c.is_confluent.ensures
    (λ confluent says. settles_by (c.in_ok-joined.ensures.0 c.if-joined.true) says)

pub returns-else-joined : goal.returns-else-joined
returns-else-joined g c = no_answers (no_settles (not_so c.in_ok-joined.ensures c.if-joined.false))
