use Rattle.kb_bylog.proofs.LineLemmas.{joined_all, joined_more, joined_none, no_answers, not_all_joined, not_so, yes_answers}
use Rattle.kb_bylog.proofs.settling.are_joined.Goals as goal

pub loop-pair-init : goal.loop-pair-init
loop-pair-init c = joined_none c.args.index.now.rules c.args.pairs.now

pub returns-then-not-joined : goal.returns-then-not-joined
returns-then-not-joined c =
    no_answers (not_all_joined c.args.index.now.rules c.args.pairs.now c.loop-pair.pair-index c.pair-item.result c.loop-pair-test.true c.pair-item.is
    (not_so c.in_ok-joined.ensures c.if-not-joined.true))

pub loop-pair-preserved : goal.loop-pair-preserved
loop-pair-preserved c =
    joined_more c.args.index.now.rules c.args.pairs.now c.loop-pair.pair-index c.pair-item.result c.loop-pair-test.true c.pair-item.is
    c.loop-pair.invariant (c.in_ok-joined.ensures.0 c.if-not-joined.false)

pub returns : goal.returns
returns c =
    yes_answers (joined_all c.args.index.now.rules c.args.pairs.now c.loop-pair.pair-index c.loop-pair-test.false c.loop-pair.invariant)
