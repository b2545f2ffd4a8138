use Rattle.std.proofs.Common.{◌∙◌}
use Rattle.kb_cmd_proofs.proofs.KbverifyRuns.{run-answer, run-unanswered}
use Rattle.kb_cmd_proofs.proofs.kbverify.print_answer.Goals as goal

pub returns-in-Ok : goal.returns-in-Ok
returns-in-Ok g c = λ parts log shelf input says.
    run-answer parts log shelf input c.args.answer says c.deref.result.now (c.deref.ensures.value ∙ c.in-Ok.ensures) c.status_of.result c.status_of.ensures.is
    (g.O.Sink.state c.args.out.now) (g.O.Sink.state c.print_line.new.out) c.print_line.result
    c.print_line.ensures.written (c.print_line.ensures.fault shelf input) c.print_line.ensures.goes_on

pub returns-in-Err : goal.returns-in-Err
returns-in-Err g c = λ parts log shelf input says. run-unanswered parts log shelf input (g.O.Sink.state c.args.out.now)
