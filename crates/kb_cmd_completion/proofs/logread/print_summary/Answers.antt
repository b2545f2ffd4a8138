use Rattle.std.proofs.Common.{◌∙◌}
use Rattle.kb_cmd_completion.proofs.LogreadRuns.{run-summary}
use Rattle.kb_cmd_completion.proofs.logread.print_summary.Goals as goal

pub returns-in-Ok : goal.returns-in-Ok
returns-in-Ok g c = λ shelf input.
    run-summary c.args.log.now shelf input (g.O.Sink.state c.args.out.now) (g.O.Sink.state c.print_line.new.out) c.print_line.result
    c.deref.result.now (c.deref.ensures.value ∙ c.in-Ok.ensures) c.print_line.ensures.written (c.print_line.ensures.fault shelf input)
    c.print_line.ensures.goes_on
