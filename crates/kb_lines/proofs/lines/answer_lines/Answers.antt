use Rattle.std.proofs.Common.{◌≡◌, ◌≤◌, ◌+◌, ◌<◌, ◌++◌, ℕ, List, [], length, take, drop, refl, sym, ◌∙◌, ap, subst, arith, length-take}
use Rattle.std.proofs.lemmas.Result.{err_from_is_err_and}
use Rattle.kb_lines.specs.Answered.{AllAnswered, Stops, StopIsCounted}
use Rattle.kb_lines.specs.Progress.{LineEnds, LineStops, LineStopIsCounted}
use Rattle.kb_lines.specs.Streams.{Streams, streams}
use Rattle.kb_lines.specs.WordLines.{IsOneLine}
use Rattle.kb_lines.proofs.ReadingLemmas.{goes-on-then, told-later, stop-counted, nothing-left, reading-start, reading-ready, reading-took, start-stops, took-stops, reading-too_long, reading-failed, reading-answered, last-stops, err-then, ok-then, split-read}
use Rattle.kb_lines.proofs.lines.answer_lines.Goals as goal

pub returns-in_err-space-clause-stops : goal.returns-in_err-space-clause-stops
returns-in_err-space-clause-stops g c = λ told.
    let p = err_from_is_err_and c.from_residual.result c.from_residual.ensures.1 in
    rw (p.1, p.2) (start-stops (streams (g.I.Source.state c.args.input.now) (g.O.Sink.state c.args.out.now)))

pub loop-more-init : goal.loop-more-init
loop-more-init g c = record {
  reading = λ told.
      reading-start c.new-progress.result (streams (g.I.Source.state c.args.input.now) (g.O.Sink.state c.args.out.now)) c.new-progress.ensures;
  goes_on = record {
    input = record { told = refl; faults = omega arith };
    output = record { told = refl; faults = omega arith };
  };
  caught_up = record {
    sent = c.new-progress.ensures.pending;
    open_line = subst IsOneLine (sym c.new-progress.ensures.line) tt;
  };
  number = let none = c.new-progress.ensures.number in omega (arith, none);
  most = omega arith;
}

pub returns-in-Err-clause-stops : goal.returns-in-Err-clause-stops
returns-in-Err-clause-stops g c = λ told.
    let kept = c.loop-more.invariant in
    reading-failed (g.I.Source.state c.read_next.new.input) (kept.reading told) (c.in-Err.ensures.kept (told-later told kept.goes_on).input) kept.most kept.caught_up.sent

pub returns-then-more-eq0-clause-answered : goal.returns-then-more-eq0-clause-answered
returns-then-more-eq0-clause-answered g c = λ told.
    let kept = c.loop-more.invariant in
    let now = told-later told kept.goes_on in
    let before : Streams = streams (g.I.Source.state c.args.input.now) (g.O.Sink.state c.args.out.now) in
    let after : Streams = streams (g.I.Source.state c.read_next.new.input) (g.O.Sink.state c.finish.new.out) in
    let none : (g.I.Source.state c.loop-more.input).left ≡ [] = (c.in-Ok.ensures.end now.input).0 c.if-more-eq0.true in
    let left = nothing-left c.read_next.new.buffer _ (g.I.Source.state c.read_next.new.input).left c.in-Ok.more (c.in-Ok.ensures.moved now.input) none in
    ok-then
    (LineEnds (g.A.Answerer.parts c.args.answerer.now) (g.A.Answerer.answers c.args.answerer.now) c.loop-more.progress.line.items c.loop-more.progress c.finish.new.self (g.O.Sink.state c.loop-more.out) (g.O.Sink.state c.finish.new.out))
    (c.finish.new.self.pending.items ≡ [])
    (AllAnswered (g.A.Answerer.parts c.args.answerer.now) (g.A.Answerer.answers c.args.answerer.now) before after)
    c.finish.result
    (λ ends sent. reading-answered (kept.reading told) none left kept.most ends sent)
    (c.finish.ensures.ends now.output) c.finish.ensures.sent

pub returns-then-more-eq0-clause-stops : goal.returns-then-more-eq0-clause-stops
returns-then-more-eq0-clause-stops g c = λ told.
    let kept = c.loop-more.invariant in
    let now = told-later told kept.goes_on in
    let before : Streams = streams (g.I.Source.state c.args.input.now) (g.O.Sink.state c.args.out.now) in
    let after : Streams = streams (g.I.Source.state c.read_next.new.input) (g.O.Sink.state c.finish.new.out) in
    let none : (g.I.Source.state c.loop-more.input).left ≡ [] = (c.in-Ok.ensures.end now.input).0 c.if-more-eq0.true in
    let left = nothing-left c.read_next.new.buffer _ (g.I.Source.state c.read_next.new.input).left c.in-Ok.more (c.in-Ok.ensures.moved now.input) none in
    err-then
    (LineStops (g.A.Answerer.parts c.args.answerer.now) (g.A.Answerer.answers c.args.answerer.now) c.loop-more.progress.line.items c.loop-more.progress.number c.loop-more.progress.pending.items (g.O.Sink.state c.loop-more.out) (g.O.Sink.state c.finish.new.out))
    (Stops (g.A.Answerer.parts c.args.answerer.now) (g.A.Answerer.answers c.args.answerer.now) before after)
    c.finish.result
    (λ stop stops. last-stops stop (kept.reading told) none left kept.most stops)
    (c.finish.ensures.stops now.output)

pub returns-then-more-eq0-clause-counted : goal.returns-then-more-eq0-clause-counted
returns-then-more-eq0-clause-counted g c =
    let after : Streams = streams (g.I.Source.state c.read_next.new.input) (g.O.Sink.state c.finish.new.out) in
    err-then
    (LineStopIsCounted (g.O.Sink.state c.loop-more.out) (g.O.Sink.state c.finish.new.out))
    (StopIsCounted (streams (g.I.Source.state c.args.input.now) (g.O.Sink.state c.args.out.now)) after)
    c.finish.result
    (λ stop counted. stop-counted after stop c.loop-more.invariant.goes_on counted)
    c.finish.ensures.counted

pub returns-in_err-take_bytes-clause-stops : goal.returns-in_err-take_bytes-clause-stops
returns-in_err-take_bytes-clause-stops g c = λ told.
    let kept = c.loop-more.invariant in
    let now = told-later told kept.goes_on in
    let buffer : List ℕ = c.read_next.new.buffer in
    let more : ℕ = c.in-Ok.more in
    let n : ℕ = c.min.result in
    let least = c.min.ensures in
    let most = kept.most in
    let less : n ≤ more = omega (arith, least) in
    let short : c.loop-more.count + length (take n buffer) ≤ 67108864 = omega (arith, least, most, length-take n buffer) in
    let p = err_from_is_err_and c.from_residual-in_err-take_bytes.result c.from_residual-in_err-take_bytes.ensures.1 in
    let after : Streams = streams (g.I.Source.state c.read_next.new.input) (g.O.Sink.state c.take_bytes.new.out) in
    rw (p.1, p.2)
    (took-stops {after = after} (take more buffer) (take n buffer) (drop n (take more buffer)) c.in_err-take_bytes.field-0.0
    (kept.reading told) (c.in-Ok.ensures.moved now.input) (split-read buffer n more less) short
    (c.in_err-take_bytes.ensures.stops (reading-ready told kept.goes_on (kept.reading told))))

pub returns-in_err-take_bytes-clause-counted : goal.returns-in_err-take_bytes-clause-counted
returns-in_err-take_bytes-clause-counted g c =
    let p = err_from_is_err_and c.from_residual-in_err-take_bytes.result c.from_residual-in_err-take_bytes.ensures.1 in
    rw (p.1, p.2)
    (stop-counted (streams (g.I.Source.state c.read_next.new.input) (g.O.Sink.state c.take_bytes.new.out)) c.in_err-take_bytes.field-0.0
    c.loop-more.invariant.goes_on c.in_err-take_bytes.ensures.counted)

pub returns-then-room-more-clause-stops : goal.returns-then-room-more-clause-stops
returns-then-room-more-clause-stops g c = λ told.
    let kept = c.loop-more.invariant in
    let now = told-later told kept.goes_on in
    let buffer : List ℕ = c.read_next.new.buffer in
    let more : ℕ = c.in-Ok.more in
    let n : ℕ = c.min.result in
    let least = c.min.ensures in
    let most = kept.most in
    let past = c.if-room-more.true in
    let within = c.in-Ok.ensures.room in
    let less : n ≤ more = omega (arith, least) in
    let full : c.loop-more.count + length (take n buffer) ≡ 67108864 = omega (arith, least, most, past, within, length-take n buffer) in
    let over : 67108864 < c.loop-more.count + length (take more buffer) = omega (arith, most, past, within, length-take more buffer) in
    let after : Streams = streams (g.I.Source.state c.read_next.new.input) (g.O.Sink.state c.take_bytes.new.out) in
    reading-too_long {after = after} (take more buffer) (take n buffer) (drop n (take more buffer))
    (kept.reading told) (c.in-Ok.ensures.moved now.input) (split-read buffer n more less) full over
    (c.in_ok-take_bytes.ensures.advances (reading-ready told kept.goes_on (kept.reading told))) c.in_ok-take_bytes.ensures.sent

pub loop-more-preserved : goal.loop-more-preserved
loop-more-preserved g c =
    let kept = c.loop-more.invariant in
    let buffer : List ℕ = c.read_next.new.buffer in
    let more : ℕ = c.in-Ok.more in
    let n : ℕ = c.min.result in
    let least = c.min.ensures in
    let most = kept.most in
    let fits = c.if-room-more.false in
    let within = c.in-Ok.ensures.room in
    let same : n ≡ more = omega (arith, least, most, fits) in
    let size : length (take n buffer) ≡ more = omega (arith, same, within, length-take n buffer) in
    let fewer = kept.number in
    let number = c.in_ok-take_bytes.ensures.number in
    record {
      reading = λ told.
          let now = told-later told kept.goes_on in
          reading-took (take n buffer) more (kept.reading told)
          (c.in-Ok.ensures.moved now.input ∙ ap (λ (k : ℕ). take k buffer ++ (g.I.Source.state c.read_next.new.input).left) (sym same)) size
          (c.in_ok-take_bytes.ensures.advances (reading-ready told kept.goes_on (kept.reading told)));
      goes_on = goes-on-then kept.goes_on (record { input = c.read_next.ensures.goes_on; output = c.take_bytes.ensures.goes_on });
      caught_up = record {
        sent = c.in_ok-take_bytes.ensures.sent;
        open_line = c.in_ok-take_bytes.ensures.open_line kept.caught_up.open_line;
      };
      number = omega (arith, fewer, number, size);
      most = omega (arith, most, fits);
    }
