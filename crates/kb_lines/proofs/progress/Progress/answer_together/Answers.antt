use Rattle.std.proofs.lemmas.Result.{err_from_is_err_and}
use Rattle.kb_lines.specs.Progress.{StopsIn}
use Rattle.kb_lines.specs.Batches.{joined}
use Rattle.kb_lines.proofs.ProgressLemmas.{nothing-in, advances-front, send-stops}
use Rattle.kb_lines.proofs.progress.Progress.answer_together.Goals as goal

pub returns-in_err-answers-clause-stops : goal.returns-in_err-answers-clause-stops
returns-in_err-answers-clause-stops g c = λ told.
    let p = err_from_is_err_and c.from_residual.result c.from_residual.ensures.1 in
    rw (p.1, p.2)
    (nothing-in (g.A.Answerer.parts c.args.answerer.now) (g.A.Answerer.answers c.args.answerer.now) (joined c.args.blocks.now)
    c.args.self.now (g.O.Sink.state c.args.out.now))

pub returns-clause-stops : goal.returns-clause-stops
returns-clause-stops g c = λ told.
    send-stops (StopsIn (g.A.Answerer.parts c.args.answerer.now) (g.A.Answerer.answers c.args.answerer.now) (joined c.args.blocks.now) c.args.self.now (g.O.Sink.state c.args.out.now) (g.O.Sink.state c.send.new.out))
    _ c.send.result c.send.ensures.output (c.send.ensures.front (rw c.add_all.ensures.goes_on.told told))
    (λ front. advances-front (c.in_ok-add_all.ensures.advances told) front)
