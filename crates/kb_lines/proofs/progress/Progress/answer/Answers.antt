use Rattle.std.proofs.Common.{subst}
use Rattle.std.proofs.lemmas.Result.{err_from_is_err_and}
use Rattle.std.specs.Prelude.{List, ℕ}
use Rattle.kb_io.specs.Bytes.{AppendsPrefix}
use Rattle.kb_lines.specs.Progress.{LineStops}
use Rattle.kb_lines.proofs.ProgressLemmas.{added-front, front-before, send-stops}
use Rattle.kb_lines.proofs.progress.Progress.answer.Goals as goal

pub returns-else-len-lt-ENOUGH-clause-stops : goal.returns-else-len-lt-ENOUGH-clause-stops
returns-else-len-lt-ENOUGH-clause-stops g c = λ told.
    send-stops (LineStops (g.A.Answerer.parts c.args.answerer.now) (g.A.Answerer.answers c.args.answerer.now) c.args.line.now c.args.self.now.number c.args.self.now.pending.items (g.O.Sink.state c.args.out.now) (g.O.Sink.state c.send.new.out))
    _ c.send.result c.send.ensures.output (c.send.ensures.front told)
    (added-front (g.A.Answerer.parts c.args.answerer.now) (g.A.Answerer.answers c.args.answerer.now) c.args.line.now _ _ _ _ c.in-Ok.ensures.given)

pub returns-in_err-send-in-Err : goal.returns-in_err-send-in-Err
returns-in_err-send-in-Err g c =
    let p = err_from_is_err_and c.from_residual.result c.from_residual.ensures.1 in
    rw (p.1, p.2, c.in_err-send-in-Err.ensures.output)
    (record {
      ends = λ told. tt;
      fresh = tt;
      few = tt;
      number = tt;
      stops = λ told.
          front-before (g.A.Answerer.parts c.args.answerer.now) (g.A.Answerer.answers c.args.answerer.now) c.args.line.now c.args.self.now.pending.items (g.O.Sink.state c.args.out.now) (g.O.Sink.state c.send-in-Err.new.out)
          (subst (λ (p : List ℕ). AppendsPrefix (g.O.Sink.state c.args.out.now).written (g.O.Sink.state c.send-in-Err.new.out).written p) c.in-Err.ensures.kept
          (c.in_err-send-in-Err.ensures.front told));
      counted = c.in_err-send-in-Err.ensures.counted;
      goes_on = c.send-in-Err.ensures.goes_on;
    })
