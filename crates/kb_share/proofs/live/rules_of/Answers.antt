use Rattle.kb_share.proofs.LiveRules.{rules_more}
use Rattle.kb_share.proofs.live.rules_of.Goals as goal

pub loop-number-preserved : goal.loop-number-preserved
loop-number-preserved c =
    rules_more c.args.lines.now c.args.numbers.now c.loop-number.number-index c.index-lines-number.result c.in_ok-rule_of.field-0
    c.loop-number.rules.items c.push.new.self.items c.loop-number-test.true c.requires c.index-lines-number.is c.in_ok-rule_of.ensures
    c.loop-number.invariant c.in_ok-push.ensures.items
