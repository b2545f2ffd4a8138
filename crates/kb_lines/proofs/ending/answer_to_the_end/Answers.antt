use Rattle.std.proofs.Common.{[], refl, sym, ◌∙◌, arith}
use Rattle.std.specs.Prelude.{IsTrue}
use Rattle.std.proofs.lemmas.Result.{err_from_is_err_and}
use Rattle.kb_lines.specs.Streams.{Streams, streams}
use Rattle.kb_lines.proofs.HoldingLemmas.{holding-end, holding-stops}
use Rattle.kb_lines.proofs.ReadingLemmas.{reading-answered, last-stops}
use Rattle.kb_lines.proofs.ending.answer_to_the_end.Goals as goal

pub returns-in_err-take_last-clause-stops : goal.returns-in_err-take_last-clause-stops
returns-in_err-take_last-clause-stops g c = λ before count input input' holding most none left told.
    let after : Streams = streams input' (g.O.Sink.state c.take_last.new.out) in
    let p = err_from_is_err_and c.from_residual.result c.from_residual.ensures.1 in
    rw (p.1, p.2)
    (holding-stops {after = after} [] [] [] holding (none ∙ sym left) refl c.in_err-take_last.field-0.0 (omega (arith, most))
    (c.in_err-take_last.ensures.stops told))

pub returns-in_err-finish-clause-stops : goal.returns-in_err-finish-clause-stops
returns-in_err-finish-clause-stops g c = λ before count input input' holding most none left told.
    let middle : Streams = streams input' (g.O.Sink.state c.take_last.new.out) in
    let after : Streams = streams input' (g.O.Sink.state c.finish.new.out) in
    let later : IsTrue (g.O.Sink.state c.take_last.new.out).told = rw c.take_last.ensures.goes_on.told told in
    let reading = holding-end {after = middle} holding (none ∙ sym left) (c.in_ok-take_last.ensures.advances told) in
    let p = err_from_is_err_and c.from_residual-in_err-finish.result c.from_residual-in_err-finish.ensures.1 in
    rw (p.1, p.2)
    (last-stops {now = middle} {after = after} c.in_err-finish.field-0.0 reading left left most (c.in_err-finish.ensures.stops later))

pub returns-clause-answered : goal.returns-clause-answered
returns-clause-answered g c = λ before count input input' holding most none left told.
    let middle : Streams = streams input' (g.O.Sink.state c.take_last.new.out) in
    let after : Streams = streams input' (g.O.Sink.state c.finish.new.out) in
    let later : IsTrue (g.O.Sink.state c.take_last.new.out).told = rw c.take_last.ensures.goes_on.told told in
    let reading = holding-end {after = middle} holding (none ∙ sym left) (c.in_ok-take_last.ensures.advances told) in
    reading-answered {now = middle} {after = after} reading left left most (c.in_ok-finish.ensures.ends later) c.in_ok-finish.ensures.sent
