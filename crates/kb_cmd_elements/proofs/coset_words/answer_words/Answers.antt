use Rattle.kb_lines.specs.Streams.{Streams, streams}
use Rattle.kb_cmd_elements.proofs.CosetRuns.{answered-run, stop-run}
use Rattle.kb_cmd_elements.proofs.coset_words.answer_words.Goals as goal

pub returns-in-Ok : goal.returns-in-Ok
returns-in-Ok g c = λ shelf.
    let before : Streams = streams (g.I.Source.state c.args.input.now) (g.O.Sink.state c.args.out.now) in
    let after : Streams = streams (g.I.Source.state c.answer_lines.new.input) (g.O.Sink.state c.answer_lines.new.out) in
    answered-run c.args.coset_words.now shelf before after c.answer_lines.ensures.goes_on c.in-Ok.ensures.answered

pub returns-in-Err : goal.returns-in-Err
returns-in-Err g c = λ shelf.
    let before : Streams = streams (g.I.Source.state c.args.input.now) (g.O.Sink.state c.args.out.now) in
    let after : Streams = streams (g.I.Source.state c.answer_lines.new.input) (g.O.Sink.state c.answer_lines.new.out) in
    stop-run c.args.coset_words.now shelf before after c.answer_lines.ensures.goes_on c.in-Err.stop c.status_of.result c.status_of.ensures
    c.in-Err.ensures.counted c.in-Err.ensures.stops
