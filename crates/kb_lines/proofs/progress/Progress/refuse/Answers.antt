use Rattle.std.proofs.Common.{rules, ◌≡◌, ◌+◌, ◌++◌, ap, subst, sym}
use Rattle.kb_lines.specs.Progress.{StopsIn}
use Rattle.kb_lines.specs.declared.stop.Stop.{Stop}
use Rattle.kb_lines.proofs.ProgressLemmas.{nothing-in}
use Rattle.kb_lines.proofs.TogetherLemmas.{block-refuses, refused-front}
use Rattle.kb_lines.proofs.progress.Progress.refuse.Goals as goal

pub returns-then-is_err-clause-stops : goal.returns-then-is_err-clause-stops
returns-then-is_err-clause-stops g c = λ block refused told.
    nothing-in (g.A.Answerer.parts c.args.answerer.now) (g.A.Answerer.answers c.args.answerer.now) block c.args.self.now
    (g.O.Sink.state c.args.out.now)

pub returns-in-Ok-clause-stops : goal.returns-in-Ok-clause-stops
returns-in-Ok-clause-stops g c = λ block refused told.
    let added : c.extend_from_slice.new.self.items ≡ c.args.self.now.pending.items ++ c.args.text.now = search rules in
    block-refuses c.extend_from_slice.new.self.items refused c.requires.fresh added
    (ap (λ number. number + (c.args.count + 1)) c.send.ensures.number) (c.in-Ok.ensures.sent told)

pub returns-in-Err-clause-stops : goal.returns-in-Err-clause-stops
returns-in-Err-clause-stops g c = λ block refused told.
    let Stops : Stop → Type 0 = StopsIn (g.A.Answerer.parts c.args.answerer.now) (g.A.Answerer.answers c.args.answerer.now) block
    c.args.self.now (g.O.Sink.state c.args.out.now) (g.O.Sink.state c.send.new.out) in
    let added : c.extend_from_slice.new.self.items ≡ c.args.self.now.pending.items ++ c.args.text.now = search rules in
    subst Stops (sym c.in-Err.ensures.output)
    (refused-front c.extend_from_slice.new.self.items refused c.requires.fresh added (c.in-Err.ensures.front told))
