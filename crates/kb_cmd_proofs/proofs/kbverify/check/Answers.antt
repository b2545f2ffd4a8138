use Rattle.kb_word.specs.Presentations.{parts_of}
use Rattle.kb_cmd_proofs.proofs.KbverifyRuns.{run-unanswered}
use Rattle.kb_cmd_proofs.proofs.kbverify.check.Goals as goal

pub returns-in-Ok : goal.returns-in-Ok
returns-in-Ok g c = λ shelf input.
    c.print_answer.ensures (parts_of c.args.presentation.now) c.args.log.now shelf input c.in-Ok.ensures

pub returns-in-Err : goal.returns-in-Err
returns-in-Err g c = λ shelf input.
    run-unanswered (parts_of c.args.presentation.now) c.args.log.now shelf input (g.O.Sink.state c.args.out.now)
