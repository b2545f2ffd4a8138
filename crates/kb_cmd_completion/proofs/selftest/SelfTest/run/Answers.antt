use Rattle.std.proofs.Common.{ℕ, List, ap, subst, sym}
use Rattle.kb_io.specs.States.{SinkState}
use Rattle.kb_task.specs.Lines.{LineIsWritten}
use Rattle.kb_cmd_completion.specs.Given.{SelfTestGiven}
use Rattle.kb_cmd_completion.specs.SelfTest.{IsReport}
use Rattle.kb_cmd_completion.proofs.SelfTestRuns.{report_faultless, run-report}
use Rattle.kb_cmd_completion.proofs.selftest.SelfTest.run.Goals as goal

pub print_line-requires : goal.print_line-requires
print_line-requires g c =
    let report = c.in-Ok.field-0 in
    let reports : IsReport c.args.self report = c.in-Ok.ensures c.args.self (sym (ap (λ (given : SelfTestGiven). given.rank) c.self.view_is))
    (sym (ap (λ (given : SelfTestGiven). given.limits) c.self.view_is)) in
    report_faultless c.args.self report.status report.text.items reports

pub returns-in-Ok : goal.returns-in-Ok
returns-in-Ok g c =
    let report = c.in-Ok.field-0 in
    let reports : IsReport c.args.self report = c.in-Ok.ensures c.args.self (sym (ap (λ (given : SelfTestGiven). given.rank) c.self.view_is))
    (sym (ap (λ (given : SelfTestGiven). given.limits) c.self.view_is)) in
    let shelf = g.F.Shelf.state c.args.shelf.now in
    let input = g.I.Source.state c.args.input.now in
    let before : SinkState = g.O.Sink.state c.args.out.now in
    let after : SinkState = g.O.Sink.state c.print_line.new.out in
    run-report c.args.self shelf input before after report.status report.text.items reports c.print_line.result
    (λ told. subst (λ (line : List ℕ). LineIsWritten line report.status before after c.print_line.result) c.deref.ensures.value
    (c.print_line.ensures.written told))
    (c.print_line.ensures.fault shelf input) c.print_line.ensures.goes_on
