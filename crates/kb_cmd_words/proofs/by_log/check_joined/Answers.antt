use Rattle.kb_word.specs.Presentations.{parts_of}
use Rattle.kb_cmd_words.proofs.LogLemmas.{relation_objects, relations_joined}
use Rattle.kb_cmd_words.proofs.LogRuns.{run-nothing}
use Rattle.kb_cmd_words.proofs.by_log.check_joined.Goals as goal

pub check_confluence-requires-clause-joined : goal.check_confluence-requires-clause-joined
check_confluence-requires-clause-joined g c κs within =
    relations_joined (parts_of c.args.presentation) c.args.log.now c.args.index.rules c.requires.lines
    (rw c.in-Ok-None.field-0-is at c.in-Ok-None.ensures)

pub returns-in-Ok-Some : goal.returns-in-Ok-Some
returns-in-Ok-Some g c = λ shelf.
    c.print_objection.ensures c.args.log.now shelf (g.I.Source.state c.args.input.now)
    (relation_objects (parts_of c.args.presentation) c.args.log.now c.args.index.rules c.in-Ok-Some.objection c.requires.justified c.requires.lines
    (rw c.in-Ok-Some.field-0-is at c.in-Ok-Some.ensures))

pub returns-in-Err : goal.returns-in-Err
returns-in-Err g c = λ shelf.
    run-nothing (parts_of c.args.presentation) c.args.log.now shelf (g.I.Source.state c.args.input.now) (g.O.Sink.state c.args.out.now)
