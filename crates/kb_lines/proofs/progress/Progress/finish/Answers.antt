use Rattle.std.proofs.Common.{ℕ, List, subst, append-nil}
use Rattle.kb_lines.specs.Progress.{LineFront, LineStops}
use Rattle.kb_lines.proofs.ProgressLemmas.{ends-front, send-stops}
use Rattle.kb_lines.proofs.progress.Progress.finish.Goals as goal

pub returns-clause-stops : goal.returns-clause-stops
returns-clause-stops g c = λ told.
    let old = c.args.self.now in
    send-stops (LineStops (g.A.Answerer.parts c.args.answerer.now) (g.A.Answerer.answers c.args.answerer.now) old.line.items old.number old.pending.items (g.O.Sink.state c.args.out.now) (g.O.Sink.state c.send.new.out))
    _ c.send.result c.send.ensures.output (c.send.ensures.front (rw c.end_line.ensures.goes_on.told told))
    (λ front. subst (λ (l : List ℕ). LineFront (g.A.Answerer.parts c.args.answerer.now) (g.A.Answerer.answers c.args.answerer.now) l old.pending.items (g.O.Sink.state c.args.out.now) (g.O.Sink.state c.send.new.out))
    (append-nil old.line.items) (ends-front (c.in_ok-end_line.ensures.ends told) front))
