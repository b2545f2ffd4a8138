use Rattle.kb_lines.specs.Progress.{StopsIn}
use Rattle.kb_lines.proofs.ProgressLemmas.{advances-front, send-stops}
use Rattle.kb_lines.proofs.progress.Progress.take_bytes.Goals as goal

pub returns-clause-stops : goal.returns-clause-stops
returns-clause-stops g c = λ ready.
    send-stops (StopsIn (g.A.Answerer.parts c.args.answerer.now) (g.A.Answerer.answers c.args.answerer.now) c.args.bytes.now c.args.self.now (g.O.Sink.state c.args.out.now) (g.O.Sink.state c.send.new.out))
    _ c.send.result c.send.ensures.output (c.send.ensures.front (rw c.take_lines.ensures.goes_on.told ready.told))
    (λ front. advances-front (c.in_ok-take_lines.ensures.advances ready) front)
