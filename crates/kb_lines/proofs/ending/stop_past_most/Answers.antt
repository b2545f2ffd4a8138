use Rattle.std.proofs.Common.{arith}
use Rattle.kb_lines.specs.Streams.{Streams, streams}
use Rattle.kb_lines.proofs.HoldingLemmas.{holding-stops, holding-too_long}
use Rattle.kb_lines.proofs.ReadingLemmas.{line_stop-counted}
use Rattle.kb_lines.proofs.ending.stop_past_most.Goals as goal

pub returns-in-Ok-clause-stops : goal.returns-in-Ok-clause-stops
returns-in-Ok-clause-stops g c = λ before count input input' read extra holding moved split full more told.
    let after : Streams = streams input' (g.O.Sink.state c.take_last.new.out) in
    holding-too_long {after = after} read c.args.bytes.now extra holding moved split full more (c.in-Ok.ensures.advances told)
    c.in-Ok.ensures.sent

pub returns-in-Err-clause-stops : goal.returns-in-Err-clause-stops
returns-in-Err-clause-stops g c = λ before count input input' read extra holding moved split full more told.
    let after : Streams = streams input' (g.O.Sink.state c.take_last.new.out) in
    holding-stops {after = after} read c.args.bytes.now extra holding moved split c.in-Err.stop (omega (arith, full))
    (c.in-Err.ensures.stops told)

pub returns-in-Err-clause-counted : goal.returns-in-Err-clause-counted
returns-in-Err-clause-counted g c = λ input input'.
    line_stop-counted input input' (g.O.Sink.state c.args.out.now) (g.O.Sink.state c.take_last.new.out) c.in-Err.stop c.in-Err.ensures.counted
