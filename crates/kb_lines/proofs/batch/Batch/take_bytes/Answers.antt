use Rattle.std.proofs.Common.{◌∙◌, ◌∷◌, [], ◌++◌, sym, refl, ap, arith, length, append_assoc, length-append}
use Rattle.std.proofs.lemmas.Result.{err_from_is_err_and}
use Rattle.kb_io.specs.Bytes.{newline}
use Rattle.kb_lines.proofs.BatchLemmas.{batch-start, batch-then, batch-stops, batch-none, batch-end, more-held, more-lines_held, some-lines}
use Rattle.kb_lines.proofs.ReadingLemmas.{sink-goes-on-then, sink-stays}
use Rattle.kb_lines.proofs.batch.Batch.take_bytes.Goals as goal

pub loop-line-init : goal.loop-line-init
loop-line-init g c = record {
  advances = λ told. batch-start c.args.bytes.now c.args.self.now (g.O.Sink.state c.args.out.now) told c.requires.ready;
  ready = c.requires.ready;
  fewer = λ fewer. fewer;
  number = omega arith;
  goes_on = sink-stays (g.O.Sink.state c.args.out.now);
}

pub returns-in_err-end_line-clause-stops : goal.returns-in_err-end_line-clause-stops
returns-in_err-end_line-clause-stops g c = λ told.
    let kept = c.loop-line.invariant in
    let line = c.in-Some.line.now in
    let behind = c.in-Some.behind.now in
    let p = err_from_is_err_and c.from_residual.result c.from_residual.ensures.1 in
    rw (p.1, p.2)
    (batch-stops (g.O.Sink.state c.end_line.new.out) (line ++ newline ∷ []) behind c.in_err-end_line.field-0.0
    (kept.advances told) (c.in-Some.ensures.split ∙ sym (append_assoc line (newline ∷ []) behind))
    (c.in_err-end_line.ensures.stops (rw kept.goes_on.told told)))

pub loop-line-preserved : goal.loop-line-preserved
loop-line-preserved g c =
    let kept = c.loop-line.invariant in
    let line = c.in-Some.line.now in
    let behind = c.in-Some.behind.now in
    let longer = ap length c.in-Some.ensures.split in
    record {
      advances = λ told.
          batch-then (line ++ newline ∷ []) behind (kept.advances told)
          (c.in-Some.ensures.split ∙ sym (append_assoc line (newline ∷ []) behind))
          (c.in_ok-end_line.ensures.advances (rw kept.goes_on.told told));
      ready = c.in_ok-end_line.ensures.ready;
      fewer = λ fewer. c.in_ok-end_line.ensures.fewer (some-lines (kept.fewer fewer));
      number = omega (arith, kept.number, c.in_ok-end_line.ensures.number, longer, length-append line (newline ∷ behind));
      goes_on = sink-goes-on-then kept.goes_on c.end_line.ensures.goes_on;
    }

pub returns-in_err-extend_from_slice-clause-stops : goal.returns-in_err-extend_from_slice-clause-stops
returns-in_err-extend_from_slice-clause-stops g c = λ told.
    let p = err_from_is_err_and c.from_residual-in_err-extend_from_slice.result c.from_residual-in_err-extend_from_slice.ensures.1 in
    rw (p.1, p.2) (batch-none (c.loop-line.invariant.advances told))

pub returns-clause-advances : goal.returns-clause-advances
returns-clause-advances g c = λ told.
    batch-end _ (c.loop-line.invariant.advances told) refl c.in_ok-extend_from_slice.ensures.items refl

pub returns-clause-ready : goal.returns-clause-ready
returns-clause-ready g c =
    more-held c.loop-line.rest.now c.loop-line.self _ c.loop-line.invariant.ready c.in_default.ensures.none refl refl
    c.in_ok-extend_from_slice.ensures.items refl refl

pub returns-clause-fewer : goal.returns-clause-fewer
returns-clause-fewer g c = λ fewer.
    let before = c.loop-line.invariant.fewer fewer in
    let same = more-lines_held c.loop-line.rest.now c.loop-line.self (record c.loop-line.self { line = c.extend_from_slice.new.self })
    c.in_default.ensures.none refl refl c.in_ok-extend_from_slice.ensures.items in
    omega (arith, same, before)
