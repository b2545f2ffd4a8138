use Rattle.std.proofs.Common.{arith, length, ap, sym, subst, ◌∷◌, ◌≢◌, length-append}
use Rattle.std.proofs.lemmas.Result.{err_from_is_err_and}
use Rattle.kb_io.specs.Bytes.{newline}
use Rattle.kb_lines.specs.WordLines.{IsOneLine}
use Rattle.kb_lines.proofs.LineLemmas.{all-append}
use Rattle.kb_lines.proofs.ProgressLemmas.{advances-line, advances-stops}
use Rattle.kb_lines.proofs.ReadingLemmas.{sink-goes-on-then}
use Rattle.kb_lines.proofs.progress.Progress.take_lines.Goals as goal

pub returns-in_err-end_line-clause-stops : goal.returns-in_err-end_line-clause-stops
returns-in_err-end_line-clause-stops g c = λ ready.
    let kept = c.loop-line.invariant in
    let p = err_from_is_err_and c.from_residual.result c.from_residual.ensures.1 in
    rw (p.1, p.2)
    (advances-stops (g.O.Sink.state c.end_line.new.out) c.in-Some.line.now c.in-Some.behind.now c.in_err-end_line.field-0.0
    (kept.advances ready) c.in-Some.ensures.split c.in-Some.ensures.line
    (c.in_err-end_line.ensures.stops (rw kept.goes_on.told ready.told)))

pub loop-line-preserved : goal.loop-line-preserved
loop-line-preserved g c =
    let kept = c.loop-line.invariant in
    let longer = ap length c.in-Some.ensures.split in
    record {
      advances = λ ready.
          advances-line c.in-Some.line.now c.in-Some.behind.now
          (kept.advances ready) c.in-Some.ensures.split c.in-Some.ensures.line
          (c.in_ok-end_line.ensures.ends (rw kept.goes_on.told ready.told));
      open_line = λ one. subst IsOneLine (sym c.in_ok-end_line.ensures.fresh) tt;
      number = omega (arith, kept.number, c.in_ok-end_line.ensures.number, longer, length-append c.in-Some.line.now (10 ∷ c.in-Some.behind.now));
      goes_on = sink-goes-on-then kept.goes_on c.end_line.ensures.goes_on;
    }

pub returns-clause-open_line : goal.returns-clause-open_line
returns-clause-open_line g c = λ one.
    subst IsOneLine (sym c.in_ok-extend_from_slice.ensures.items)
    (all-append (λ byte. byte ≢ newline) c.loop-line.self.line.items c.loop-line.rest.now (c.loop-line.invariant.open_line one) c.in_default.ensures.none)
