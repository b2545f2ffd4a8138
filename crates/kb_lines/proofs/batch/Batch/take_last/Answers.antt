use Rattle.std.specs.Prelude.{IsTrue}
use Rattle.std.proofs.lemmas.Result.{err_from_is_err_and}
use Rattle.kb_lines.proofs.BatchLemmas.{batch-answered, batch-answer_stops, batch-last}
use Rattle.kb_lines.proofs.batch.Batch.take_last.Goals as goal

pub returns-in_err-answer_taken-clause-stops : goal.returns-in_err-answer_taken-clause-stops
returns-in_err-answer_taken-clause-stops g c = λ told.
    let p = err_from_is_err_and c.from_residual-in_err-answer_taken.result c.from_residual-in_err-answer_taken.ensures.1 in
    rw (p.1, p.2)
    (batch-answer_stops (g.O.Sink.state c.answer_taken.new.out) c.in_err-answer_taken.field-0.0
    (c.in_ok-take_bytes.ensures.advances told)
    (c.in_err-answer_taken.ensures.stops (rw c.take_bytes.ensures.goes_on.told told)))

pub returns-clause-advances : goal.returns-clause-advances
returns-clause-advances g c = λ told.
    let taken = c.take_bytes.new.self in
    let answered = c.answer_taken.new.self in
    let answer = c.in_ok-answer_taken.ensures in
    let later : IsTrue (g.O.Sink.state c.take_bytes.new.out).told = rw c.take_bytes.ensures.goes_on.told told in
    let last : IsTrue (g.O.Sink.state c.answer_taken.new.out).told = rw c.answer_taken.ensures.goes_on.told later in
    batch-last c.hand_on.new.self.progress
    (batch-answered answered (g.O.Sink.state c.answer_taken.new.out) (c.in_ok-take_bytes.ensures.advances told) (answer.advances later)
    answer.none answer.line)
    last answer.ready answer.none
    c.hand_on.ensures.line c.hand_on.ensures.number c.hand_on.ensures.pending
