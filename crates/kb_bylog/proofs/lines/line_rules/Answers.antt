use Rattle.std.proofs.Common.{◌∙◌}
use Rattle.kb_bylog.proofs.LineLemmas.{decreasing_at, rules_all, rules_more}
use Rattle.kb_bylog.proofs.lines.line_rules.Goals as goal

pub push-requires : goal.push-requires
push-requires c =
    decreasing_at c.args.order c.loop-line.rules.order c.args.lines.now c.loop-line.line-index c.line-item.result c.in_ok-rule.rule c.requires
    c.loop-line-test.true c.line-item.is c.in_ok-rule.ensures c.loop-line.invariant.order

pub loop-line-preserved : goal.loop-line-preserved
loop-line-preserved c = record {
  order = c.push.ensures.order ∙ c.loop-line.invariant.order;
  so_far = rules_more c.args.lines.now c.loop-line.line-index c.line-item.result c.loop-line.rules.rules c.push.new.self.rules c.in_ok-rule.rule
      c.loop-line-test.true c.line-item.is c.loop-line.invariant.so_far c.in_ok-rule.ensures c.in_ok-push.ensures.ok;
}

pub returns : goal.returns
returns c =
    rules_all c.args.lines.now c.loop-line.line-index c.loop-line.rules.rules c.loop-line-test.false c.loop-line.invariant.so_far
