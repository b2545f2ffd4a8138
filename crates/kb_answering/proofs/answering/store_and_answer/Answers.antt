use Rattle.std.proofs.Common.{inl, List, ℕ}
use Rattle.kb_io.specs.Outside.{outside}
use Rattle.kb_io.specs.States.{ShelfState, SourceState, SinkState}
use Rattle.kb_word.specs.Presentations.{PresentationParts}
use Rattle.kb_lines.specs.Streams.{Streams, streams}
use Rattle.kb_task.specs.Stores.{Text, texts_of}
use Rattle.kb_answering.specs.Answers.{Own, Shows}
use Rattle.kb_answering.proofs.StoreRuns.{run-answers, run-stops_at_store}
use Rattle.kb_answering.proofs.answering.store_and_answer.Goals as goal

pub returns-in-Ok : goal.returns-in-Ok
returns-in-Ok g c =
    let own : Own = g.C.Concludes.own c.args.command.now in
    let shows : Shows = g.C.Concludes.shows c.args.command.now in
    let parts : PresentationParts = g.A.Answerer.parts c.args.answerer.now in
    let MayStore : List ℕ → Type 0 = g.C.Concludes.may_store c.args.command.now in
    let texts : List Text = texts_of c.args.files.items in
    let old : ShelfState = g.F.Shelf.state c.args.shelf.now in
    let new : ShelfState = g.F.Shelf.state c.store_all.new.shelf in
    let before : Streams = streams (g.I.Source.state c.args.input.now) (g.O.Sink.state c.args.out.now) in
    let after : Streams = streams (g.I.Source.state c.answer_words.new.input) (g.O.Sink.state c.answer_words.new.out) in
    run-answers own shows parts MayStore texts c.requires.may c.requires.own old new before after c.answer_words.result
    (c.in-Ok.ensures.ok before.input before.output) (c.answer_words.ensures new)

pub returns-in-Err : goal.returns-in-Err
returns-in-Err g c =
    let own : Own = g.C.Concludes.own c.args.command.now in
    let shows : Shows = g.C.Concludes.shows c.args.command.now in
    let parts : PresentationParts = g.A.Answerer.parts c.args.answerer.now in
    let MayStore : List ℕ → Type 0 = g.C.Concludes.may_store c.args.command.now in
    let texts : List Text = texts_of c.args.files.items in
    let input : SourceState = g.I.Source.state c.args.input.now in
    let output : SinkState = g.O.Sink.state c.args.out.now in
    run-stops_at_store own shows parts MayStore texts c.requires.may (inl c.requires.own)
    (outside (g.F.Shelf.state c.args.shelf.now) input output) (outside (g.F.Shelf.state c.store_all.new.shelf) input output)
    c.in-Err.status c.in-Err.ensures.other (c.in-Err.ensures.err input output)
