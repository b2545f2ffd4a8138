use Rattle.std.proofs.Common.{◌≡◌, ◌++◌, [], refl}
use Rattle.std.proofs.lemmas.Result.{err_from_is_err_and}
use Rattle.kb_lines.specs.Progress.{Advances, StopsIn}
use Rattle.kb_lines.proofs.ProgressLemmas.{nothing-in, pending-given, pending-sent, send-stops}
use Rattle.kb_lines.proofs.ReadingLemmas.{ok-then}
use Rattle.kb_lines.proofs.TogetherLemmas.{block-advances, block-front}
use Rattle.kb_lines.proofs.progress.Progress.add_text.Goals as goal

pub returns-in_err-extend_from_slice-clause-stops : goal.returns-in_err-extend_from_slice-clause-stops
returns-in_err-extend_from_slice-clause-stops g c = λ block are gives told.
    let p = err_from_is_err_and c.from_residual.result c.from_residual.ensures.1 in
    rw (p.1, p.2) (nothing-in (g.A.Answerer.parts c.args.answerer.now) (g.A.Answerer.answers c.args.answerer.now) block c.args.self.now (g.O.Sink.state c.args.out.now))

pub returns-clause-stops : goal.returns-clause-stops
returns-clause-stops g c = λ block are gives told.
    send-stops (StopsIn (g.A.Answerer.parts c.args.answerer.now) (g.A.Answerer.answers c.args.answerer.now) block c.args.self.now (g.O.Sink.state c.args.out.now) (g.O.Sink.state c.send.new.out))
    _ c.send.result c.send.ensures.output (c.send.ensures.front told)
    (block-front _ gives c.requires.fresh c.in_ok-extend_from_slice.ensures.items)

pub returns-then-len-lt-ENOUGH-clause-advances : goal.returns-then-len-lt-ENOUGH-clause-advances
returns-then-len-lt-ENOUGH-clause-advances g c = λ block are gives told.
    block-advances are gives c.requires.fresh c.requires.fresh refl
    (pending-given c.args.text.now c.args.self.now.pending.items c.extend_from_slice.new.self.items (g.O.Sink.state c.args.out.now)
    c.in_ok-extend_from_slice.ensures.items)

pub returns-clause-advances : goal.returns-clause-advances
returns-clause-advances g c = λ block are gives told.
    let old = c.args.self.now in
    let middle = c.extend_from_slice.new.self.items in
    let before = g.O.Sink.state c.args.out.now in
    let after = g.O.Sink.state c.send.new.out in
    let still : c.send.new.self.line.items ≡ [] = rw c.send.ensures.line c.requires.fresh in
    ok-then
    (after.written ≡ before.written ++ middle)
    (c.send.new.self.pending.items ≡ [])
    (Advances (g.A.Answerer.parts c.args.answerer.now) (g.A.Answerer.answers c.args.answerer.now) block [] old c.send.new.self before after)
    c.send.result
    (λ sent none. block-advances are gives c.requires.fresh still c.send.ensures.number
    (pending-sent c.args.text.now old.pending.items middle c.send.new.self.pending.items before after c.in_ok-extend_from_slice.ensures.items none sent))
    (c.send.ensures.sent told) c.send.ensures.none
