use Rattle.std.proofs.Common.{◌∙◌}
use Rattle.kb_word.specs.Presentations.{parts_of}
use Rattle.kb_cmd_words.proofs.LogRuns.{run-nothing, run-objection}
use Rattle.kb_cmd_words.proofs.objection.print_objection.Goals as goal

pub returns-in-Ok : goal.returns-in-Ok
returns-in-Ok g c = λ log shelf input says.
    run-objection (parts_of c.args.presentation.now) log shelf input c.args.objection says c.deref.result.now (c.deref.ensures.value ∙ c.in-Ok.ensures)
    c.status_of.result c.status_of.ensures.is (g.O.Sink.state c.args.out.now) (g.O.Sink.state c.print_line.new.out) c.print_line.result
    c.print_line.ensures.written (c.print_line.ensures.fault shelf input) c.print_line.ensures.goes_on

pub returns-in-Err : goal.returns-in-Err
returns-in-Err g c = λ log shelf input says. run-nothing (parts_of c.args.presentation.now) log shelf input (g.O.Sink.state c.args.out.now)
