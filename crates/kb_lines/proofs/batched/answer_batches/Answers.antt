use Rattle.std.proofs.Common.{◌≡◌, ◌≤◌, ◌+◌, ◌-◌, ◌<◌, ℕ, List, [], length, take, drop, refl, sym, ap, arith, append-nil, length-take}
use Rattle.std.proofs.lemmas.Result.{err_from_is_err_and}
use Rattle.kb_lines.specs.Answered.{StopIsCounted}
use Rattle.kb_lines.specs.Progress.{LineStopIsCounted}
use Rattle.kb_lines.specs.Streams.{Streams, streams}
use Rattle.kb_lines.proofs.BatchLemmas.{new-held, new-holds_nothing, held-short, new-short}
use Rattle.kb_lines.proofs.HoldingLemmas.{holding-start, holding-took, holding-stops}
use Rattle.kb_lines.proofs.ReadingLemmas.{goes-on-then, told-later, stop-counted, later-counted, nothing-left, start-stops, err-then, split-read}
use Rattle.kb_lines.proofs.batched.answer_batches.Goals as goal

pub returns-in_err-space-clause-stops : goal.returns-in_err-space-clause-stops
returns-in_err-space-clause-stops g c = λ told.
    let p = err_from_is_err_and c.from_residual.result c.from_residual.ensures.1 in
    rw (p.1, p.2) (start-stops (streams (g.I.Source.state c.args.input.now) (g.O.Sink.state c.args.out.now)))

pub loop-more-init : goal.loop-more-init
loop-more-init g c =
    let none = ap length (new-holds_nothing c.new-batch.result c.new-batch.ensures) in
    let count = c.new-batch.ensures.progress.number in
    record {
      holding = λ told.
          holding-start c.new-batch.result (streams (g.I.Source.state c.args.input.now) (g.O.Sink.state c.args.out.now)) c.new-batch.ensures;
      goes_on = record {
        input = record { told = refl; faults = omega arith };
        output = record { told = refl; faults = omega arith };
      };
      ready = new-held c.new-batch.result c.new-batch.ensures;
      fewer = (new-short c.new-batch.result c.args.batches.now.size c.new-batch.ensures c.requires).fewer;
      number = omega (arith, none, count);
      most = omega arith;
    }

-- ---- the input failed

pub returns-in-Err-clause-stops : goal.returns-in-Err-clause-stops
returns-in-Err-clause-stops g c = λ told.
    let kept = c.loop-more.invariant in
    let now = told-later told kept.goes_on in
    let before : Streams = streams (g.I.Source.state c.args.input.now) (g.O.Sink.state c.args.out.now) in
    c.stop_at_failure.ensures.stops before c.loop-more.count (g.I.Source.state c.loop-more.input) (g.I.Source.state c.read_next.new.input)
    (kept.holding told) kept.most (c.in-Err.ensures.kept now.input) now.output

pub returns-in-Err-clause-counted : goal.returns-in-Err-clause-counted
returns-in-Err-clause-counted g c =
    later-counted (streams (g.I.Source.state c.read_next.new.input) (g.O.Sink.state c.stop_at_failure.new.out)) c.stop_at_failure.result
    c.loop-more.invariant.goes_on
    (c.stop_at_failure.ensures.counted (g.I.Source.state c.loop-more.input) (g.I.Source.state c.read_next.new.input) c.in-Err.ensures.failed)

-- ---- the input ended

pub returns-then-more-eq0-clause-answered : goal.returns-then-more-eq0-clause-answered
returns-then-more-eq0-clause-answered g c = λ told.
    let kept = c.loop-more.invariant in
    let now = told-later told kept.goes_on in
    let before : Streams = streams (g.I.Source.state c.args.input.now) (g.O.Sink.state c.args.out.now) in
    let none : (g.I.Source.state c.loop-more.input).left ≡ [] = (c.in-Ok.ensures.end now.input).0 c.if-more-eq0.true in
    let left = nothing-left c.read_next.new.buffer _ (g.I.Source.state c.read_next.new.input).left c.in-Ok.more (c.in-Ok.ensures.moved now.input) none in
    c.answer_to_the_end.ensures.answered before c.loop-more.count (g.I.Source.state c.loop-more.input) (g.I.Source.state c.read_next.new.input)
    (kept.holding told) kept.most none left now.output

pub returns-then-more-eq0-clause-stops : goal.returns-then-more-eq0-clause-stops
returns-then-more-eq0-clause-stops g c = λ told.
    let kept = c.loop-more.invariant in
    let now = told-later told kept.goes_on in
    let before : Streams = streams (g.I.Source.state c.args.input.now) (g.O.Sink.state c.args.out.now) in
    let none : (g.I.Source.state c.loop-more.input).left ≡ [] = (c.in-Ok.ensures.end now.input).0 c.if-more-eq0.true in
    let left = nothing-left c.read_next.new.buffer _ (g.I.Source.state c.read_next.new.input).left c.in-Ok.more (c.in-Ok.ensures.moved now.input) none in
    c.answer_to_the_end.ensures.stops before c.loop-more.count (g.I.Source.state c.loop-more.input) (g.I.Source.state c.read_next.new.input)
    (kept.holding told) kept.most none left now.output

pub returns-then-more-eq0-clause-counted : goal.returns-then-more-eq0-clause-counted
returns-then-more-eq0-clause-counted g c =
    let after : Streams = streams (g.I.Source.state c.read_next.new.input) (g.O.Sink.state c.answer_to_the_end.new.out) in
    err-then
    (LineStopIsCounted (g.O.Sink.state c.loop-more.out) (g.O.Sink.state c.answer_to_the_end.new.out))
    (StopIsCounted (streams (g.I.Source.state c.args.input.now) (g.O.Sink.state c.args.out.now)) after)
    c.answer_to_the_end.result
    (λ stop counted. stop-counted after stop c.loop-more.invariant.goes_on counted)
    c.answer_to_the_end.ensures.counted

-- ---- more was read than may be

pub returns-then-room-more-clause-stops : goal.returns-then-room-more-clause-stops
returns-then-room-more-clause-stops g c = λ told.
    let kept = c.loop-more.invariant in
    let now = told-later told kept.goes_on in
    let before : Streams = streams (g.I.Source.state c.args.input.now) (g.O.Sink.state c.args.out.now) in
    let buffer : List ℕ = c.read_next.new.buffer in
    let more : ℕ = c.in-Ok.more in
    let most = kept.most in
    let past = c.if-room-more.true in
    let within = c.in-Ok.ensures.room in
    let room : ℕ = 67108864 - c.loop-more.count in
    let full : c.loop-more.count + length (take room buffer) ≡ 67108864 = omega (arith, most, past, within, length-take room buffer) in
    let over : 67108864 < c.loop-more.count + length (take more buffer) = omega (arith, most, past, within, length-take more buffer) in
    c.stop_past_most.ensures.stops before c.loop-more.count (g.I.Source.state c.loop-more.input) (g.I.Source.state c.read_next.new.input)
    (take more buffer) (drop room (take more buffer)) (kept.holding told) (c.in-Ok.ensures.moved now.input)
    (split-read buffer room more (omega (arith, past))) full over now.output

pub returns-then-room-more-clause-counted : goal.returns-then-room-more-clause-counted
returns-then-room-more-clause-counted g c =
    later-counted (streams (g.I.Source.state c.read_next.new.input) (g.O.Sink.state c.stop_past_most.new.out)) c.stop_past_most.result
    c.loop-more.invariant.goes_on
    (c.stop_past_most.ensures.counted (g.I.Source.state c.loop-more.input) (g.I.Source.state c.read_next.new.input))

-- ---- more bytes were taken

pub returns-in_err-take_bytes-clause-stops : goal.returns-in_err-take_bytes-clause-stops
returns-in_err-take_bytes-clause-stops g c = λ told.
    let kept = c.loop-more.invariant in
    let now = told-later told kept.goes_on in
    let buffer : List ℕ = c.read_next.new.buffer in
    let more : ℕ = c.in-Ok.more in
    let most = kept.most in
    let fits = c.if-room-more.false in
    let within = c.in-Ok.ensures.room in
    let short : c.loop-more.count + length (take more buffer) ≤ 67108864 = omega (arith, most, fits, within, length-take more buffer) in
    let p = err_from_is_err_and c.from_residual-in_err-take_bytes.result c.from_residual-in_err-take_bytes.ensures.1 in
    let after : Streams = streams (g.I.Source.state c.read_next.new.input) (g.O.Sink.state c.take_bytes.new.out) in
    rw (p.1, p.2)
    (holding-stops {after = after} (take more buffer) (take more buffer) [] (kept.holding told) (c.in-Ok.ensures.moved now.input)
    (sym (append-nil (take more buffer))) c.in_err-take_bytes.field-0.0 short (c.in_err-take_bytes.ensures.stops now.output))

pub returns-in_err-take_bytes-clause-counted : goal.returns-in_err-take_bytes-clause-counted
returns-in_err-take_bytes-clause-counted g c =
    let p = err_from_is_err_and c.from_residual-in_err-take_bytes.result c.from_residual-in_err-take_bytes.ensures.1 in
    rw (p.1, p.2)
    (stop-counted (streams (g.I.Source.state c.read_next.new.input) (g.O.Sink.state c.take_bytes.new.out)) c.in_err-take_bytes.field-0.0
    c.loop-more.invariant.goes_on c.in_err-take_bytes.ensures.counted)

pub loop-more-preserved : goal.loop-more-preserved
loop-more-preserved g c =
    let kept = c.loop-more.invariant in
    let buffer : List ℕ = c.read_next.new.buffer in
    let more : ℕ = c.in-Ok.more in
    let most = kept.most in
    let fits = c.if-room-more.false in
    let within = c.in-Ok.ensures.room in
    let size : length (take more buffer) ≡ more = omega (arith, within, length-take more buffer) in
    let fewer = kept.number in
    let number = c.in_ok-take_bytes.ensures.number in
    record {
      holding = λ told.
          let now = told-later told kept.goes_on in
          holding-took (take more buffer) more (kept.holding told) (c.in-Ok.ensures.moved now.input) size
          (c.in_ok-take_bytes.ensures.advances now.output);
      goes_on = goes-on-then kept.goes_on (record { input = c.read_next.ensures.goes_on; output = c.take_bytes.ensures.goes_on });
      ready = c.in_ok-take_bytes.ensures.ready;
      fewer = c.in_ok-take_bytes.ensures.fewer kept.fewer;
      number = omega (arith, fewer, number, size);
      most = omega (arith, most, fits);
    }

-- ---- more is read

pub read_next-requires-clause-short : goal.read_next-requires-clause-short
read_next-requires-clause-short g c =
    let kept = c.loop-more.invariant in
    λ κs lives. held-short c.loop-more.batch _ kept.ready kept.fewer
