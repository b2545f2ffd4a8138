use Rattle.std.proofs.Common.{◌-◌, ◌<◌, ◌≤◌}
use Rattle.kb_lines.specs.Batches.{IsHeld, IsHolding, least_taken, lines_held}
use Rattle.kb_lines.specs.Streams.{streams, AreTold, StreamsGoOn}
use Rattle.kb_lines.proofs.batched.answer_batches.Given as goal

-- the lines before those that wait for their batch were answered
abbrev pub invariant-loop-more : goal.invariant-loop-more
invariant-loop-more g l = record {
  holding : AreTold (streams (g.I.Source.state l.fn.input) (g.O.Sink.state l.fn.out))
      → IsHolding (g.A.Answerer.parts l.answerer) (g.A.Answerer.answers l.answerer)
      (streams (g.I.Source.state l.fn.input) (g.O.Sink.state l.fn.out)) (streams (g.I.Source.state l.input) (g.O.Sink.state l.out))
      l.batch l.count;
  goes_on : StreamsGoOn (streams (g.I.Source.state l.fn.input) (g.O.Sink.state l.fn.out)) (streams (g.I.Source.state l.input) (g.O.Sink.state l.out));
  ready : IsHeld l.batch;
  fewer : lines_held l.batch < l.batches.size;
  number : least_taken l.batch ≤ l.count;
  most : l.count ≤ 67108864;
}

abbrev pub decreases-loop-more : goal.decreases-loop-more
decreases-loop-more g l = 67108864 - l.count
