use Rattle.std.proofs.Common.{[], refl, sym, arith}
use Rattle.kb_lines.specs.Streams.{Streams, streams}
use Rattle.kb_lines.proofs.HoldingLemmas.{holding-end, holding-stops}
use Rattle.kb_lines.proofs.ReadingLemmas.{reading-failed, line_stop-counted}
use Rattle.kb_lines.proofs.ending.stop_at_failure.Goals as goal

pub returns-in-Ok-clause-stops : goal.returns-in-Ok-clause-stops
returns-in-Ok-clause-stops g c = λ before count input input' holding most kept told.
    let middle : Streams = streams input (g.O.Sink.state c.take_last.new.out) in
    reading-failed {now = middle} input' (holding-end {after = middle} holding refl (c.in-Ok.ensures.advances told)) kept most
    c.in-Ok.ensures.sent

pub returns-in-Err-clause-stops : goal.returns-in-Err-clause-stops
returns-in-Err-clause-stops g c = λ before count input input' holding most kept told.
    let after : Streams = streams input' (g.O.Sink.state c.take_last.new.out) in
    holding-stops {after = after} [] [] [] holding (sym kept) refl c.in-Err.stop (omega (arith, most)) (c.in-Err.ensures.stops told)

pub returns-in-Err-clause-counted : goal.returns-in-Err-clause-counted
returns-in-Err-clause-counted g c = λ input input' more.
    line_stop-counted input input' (g.O.Sink.state c.args.out.now) (g.O.Sink.state c.take_last.new.out) c.in-Err.stop c.in-Err.ensures.counted
