use Rattle.kb_lines.specs.Streams.{Streams, streams}
use Rattle.kb_lines.proofs.WiderLemmas.{answered-wider, stops-wider}
use Rattle.kb_word.specs.Presentations.{PresentationParts}
use Rattle.kb_system.specs.Completed.{IsLeastIn}
use Rattle.kb_answering.proofs.LineRuns.{answered-run, stop-run}
use Rattle.kb_answering.proofs.answering.answer_words.Goals as goal

pub returns-in-Ok : goal.returns-in-Ok
returns-in-Ok g c = λ shelf.
    let parts : PresentationParts = g.A.Answerer.parts c.args.answerer.now in
    let before : Streams = streams (g.I.Source.state c.args.input.now) (g.O.Sink.state c.args.out.now) in
    let after : Streams = streams (g.I.Source.state c.answer_in_batches.new.input) (g.O.Sink.state c.answer_in_batches.new.out) in
    answered-run parts shelf before after c.answer_in_batches.ensures.goes_on
    (λ told. answered-wider parts (g.A.Answerer.answers c.args.answerer.now) (IsLeastIn parts) c.requires {before = before} {after = after}
    (c.in-Ok.ensures.answered told))

pub returns-in-Err : goal.returns-in-Err
returns-in-Err g c = λ shelf.
    let parts : PresentationParts = g.A.Answerer.parts c.args.answerer.now in
    let before : Streams = streams (g.I.Source.state c.args.input.now) (g.O.Sink.state c.args.out.now) in
    let after : Streams = streams (g.I.Source.state c.answer_in_batches.new.input) (g.O.Sink.state c.answer_in_batches.new.out) in
    stop-run parts shelf before after c.answer_in_batches.ensures.goes_on c.in-Err.stop c.status_of.result c.status_of.ensures c.in-Err.ensures.counted
    (λ told. stops-wider parts (g.A.Answerer.answers c.args.answerer.now) (IsLeastIn parts) c.requires {before = before} {after = after}
    (c.in-Err.ensures.stops told))
