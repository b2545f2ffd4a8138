use Rattle.std.proofs.Common.{◌∷◌, [], ◌++◌, arith}
use Rattle.std.proofs.lemmas.Result.{err_from_is_err_and}
use Rattle.kb_io.specs.Bytes.{newline}
use Rattle.kb_lines.proofs.BatchLemmas.{batch-start, batch-none, batch-taken, batch-answered, batch-answer_stops, taken-least, none-held}
use Rattle.kb_lines.proofs.batch.Batch.end_line.Goals as goal

-- memory ran out before the line was taken
pub returns-in_err-take_line-clause-stops : goal.returns-in_err-take_line-clause-stops
returns-in_err-take_line-clause-stops g c = λ told.
    let p = err_from_is_err_and c.from_residual.result c.from_residual.ensures.1 in
    rw (p.1, p.2)
    (batch-none (batch-start (c.args.end.now ++ newline ∷ []) c.args.self.now (g.O.Sink.state c.args.out.now) told c.requires.ready))

-- the line waits for its batch
pub returns-then-self-batches-clause-advances : goal.returns-then-self-batches-clause-advances
returns-then-self-batches-clause-advances g c = λ told.
    let take = c.in_ok-take_line.ensures in
    batch-taken (c.args.end.now ++ newline ∷ []) c.args.self.now c.take_line.new.self (g.O.Sink.state c.args.out.now) told c.requires.ready take.held
    c.take_line.ensures.progress

pub returns-then-self-batches-clause-ready : goal.returns-then-self-batches-clause-ready
returns-then-self-batches-clause-ready g c =
    let take = c.in_ok-take_line.ensures in
    take.ready

pub returns-then-self-batches-clause-number : goal.returns-then-self-batches-clause-number
returns-then-self-batches-clause-number g c =
    let take = c.in_ok-take_line.ensures in
    let least = taken-least c.args.end.now c.args.self.now c.take_line.new.self take.held c.take_line.ensures.progress in
    omega (arith, least)

-- the batch is full
pub answer_taken-requires-clause-ready : goal.answer_taken-requires-clause-ready
answer_taken-requires-clause-ready g c =
    let take = c.in_ok-take_line.ensures in
    λ κs lives. take.ready

pub answer_taken-requires-clause-room : goal.answer_taken-requires-clause-room
answer_taken-requires-clause-room g c =
    let take = c.in_ok-take_line.ensures in
    let least = taken-least c.args.end.now c.args.self.now c.take_line.new.self take.held c.take_line.ensures.progress in
    let room = c.requires.room in
    omega (arith, least, room)

pub returns-in_err-answer_taken-clause-stops : goal.returns-in_err-answer_taken-clause-stops
returns-in_err-answer_taken-clause-stops g c = λ told.
    let take = c.in_ok-take_line.ensures in
    let p = err_from_is_err_and c.from_residual-in_err-answer_taken.result c.from_residual-in_err-answer_taken.ensures.1 in
    rw (p.1, p.2)
    (batch-answer_stops (g.O.Sink.state c.answer_taken.new.out) c.in_err-answer_taken.field-0.0
    (batch-taken (c.args.end.now ++ newline ∷ []) c.args.self.now c.take_line.new.self (g.O.Sink.state c.args.out.now) told c.requires.ready take.held
    c.take_line.ensures.progress)
    (c.in_err-answer_taken.ensures.stops told))

pub returns-clause-advances : goal.returns-clause-advances
returns-clause-advances g c = λ told.
    let take = c.in_ok-take_line.ensures in
    let answer = c.in_ok-answer_taken.ensures in
    batch-answered c.answer_taken.new.self (g.O.Sink.state c.answer_taken.new.out)
    (batch-taken (c.args.end.now ++ newline ∷ []) c.args.self.now c.take_line.new.self (g.O.Sink.state c.args.out.now) told c.requires.ready take.held
    c.take_line.ensures.progress)
    (answer.advances told) answer.none answer.line

pub returns-clause-number : goal.returns-clause-number
returns-clause-number g c =
    let take = c.in_ok-take_line.ensures in
    let least = taken-least c.args.end.now c.args.self.now c.take_line.new.self take.held c.take_line.ensures.progress in
    let fewer = c.in_ok-answer_taken.ensures.number in
    omega (arith, least, fewer)

-- ---- how many lines are held

pub take_line-requires-clause-room : goal.take_line-requires-clause-room
take_line-requires-clause-room g c = let room = c.requires.room in omega (arith, room)

pub returns-then-self-batches-clause-fewer : goal.returns-then-self-batches-clause-fewer
returns-then-self-batches-clause-fewer g c = λ some.
    let counted = c.in_ok-take_line.ensures.ready.counted in
    omega (arith, counted)

pub returns-clause-fewer : goal.returns-clause-fewer
returns-clause-fewer g c = λ some.
    let answer = c.in_ok-answer_taken.ensures in
    let none = none-held c.answer_taken.new.self answer.ready answer.none in
    omega (arith, none)
