use Rattle.std.proofs.Common.{◌++◌}
use Rattle.std.proofs.lemmas.Result.{err_from_is_err_and}
use Rattle.kb_lines.proofs.ProgressLemmas.{front-none}
use Rattle.kb_lines.proofs.progress.Progress.end_line.Goals as goal

pub returns-in_err-extend_from_slice-clause-stops :
    goal.returns-in_err-extend_from_slice-clause-stops
returns-in_err-extend_from_slice-clause-stops g c = λ told.
    let p = err_from_is_err_and c.from_residual.result c.from_residual.ensures.1 in
    rw (p.1, p.2)
    (front-none (g.A.Answerer.parts c.args.answerer.now) (g.A.Answerer.answers c.args.answerer.now) (c.args.self.now.line.items ++ c.args.end.now) c.args.self.now.pending.items (g.O.Sink.state c.args.out.now))
