use Rattle.std.proofs.Common.{◌≡◌, [], length}
use Rattle.kb_io.specs.States.{SinkGoesOn}
use Rattle.kb_lines.proofs.TogetherLemmas.{IsAdding}
use Rattle.kb_lines.proofs.progress.Progress.add_all.Given as goal

-- the answers before those that are left were added
abbrev pub invariant-loop-answer : goal.invariant-loop-answer
invariant-loop-answer g l = record {
  counted : l.answer-iterator.rest.len ≡ length l.answer-iterator.rest.items;
  adding : IsAdding (g.A.Answerer.parts l.answerer) (g.A.Answerer.answers l.answerer) l.blocks l.answer-iterator.rest.items l.fn.self l.self
      (g.O.Sink.state l.fn.out) (g.O.Sink.state l.out);
  fresh : l.self.line.items ≡ [];
  goes_on : SinkGoesOn (g.O.Sink.state l.fn.out) (g.O.Sink.state l.out);
}
