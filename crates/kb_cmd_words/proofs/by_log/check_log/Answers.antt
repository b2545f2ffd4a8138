use Rattle.kb_word.specs.Presentations.{parts_of}
use Rattle.kb_cmd_words.proofs.LogRuns.{run-nothing}
use Rattle.kb_cmd_words.proofs.by_log.check_log.Goals as goal

pub go_on-requires-clause-says : goal.go_on-requires-clause-says
go_on-requires-clause-says g c κs within = c.in-Ok.ensures

pub returns-in-Err : goal.returns-in-Err
returns-in-Err g c = λ shelf.
    run-nothing (parts_of c.args.presentation) c.args.log.now shelf (g.I.Source.state c.args.input.now) (g.O.Sink.state c.args.out.now)
