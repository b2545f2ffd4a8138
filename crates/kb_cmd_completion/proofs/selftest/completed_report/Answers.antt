use Rattle.std.proofs.Common.{refl}
use Rattle.kb_cmd_completion.proofs.SelfTestRuns.{summary-made}
use Rattle.kb_cmd_completion.proofs.selftest.completed_report.Goals as goal

pub returns : goal.returns
returns c = record {
  status = refl;
  text = summary-made c.args.rank c.args.rules c.args.states c.from.result c.from-2.result c.in_ok-text.text.items c.append_number.new.line.items
      c.append.new.line.items c.append_number-2.new.line.items c.append-2.new.line.items c.append_number-3.new.line.items
      c.push.new.self.items c.in_ok-text.ensures.items c.from.ensures c.in_ok-append_number.ensures c.in_ok-append.ensures
      c.in_ok-append_number-2.ensures c.in_ok-append-2.ensures c.from-2.ensures c.in_ok-append_number-3.ensures c.in_ok-push.ensures.items;
}
