use Rattle.std.proofs.Common.{◌+◌, ◌<◌, ◌≤◌, length}
use Rattle.std.specs.Prelude.{IsTrue}
use Rattle.kb_io.specs.States.{SinkGoesOn}
use Rattle.kb_lines.specs.Batches.{BatchAdvances, IsHeld, least_taken, lines_held}
use Rattle.kb_lines.proofs.batch.Batch.take_bytes.Given as goal

-- the lines before the rest of the bytes were taken
abbrev pub invariant-loop-line : goal.invariant-loop-line
invariant-loop-line g l = record {
  advances : IsTrue (g.O.Sink.state l.fn.out).told
      → BatchAdvances (g.A.Answerer.parts l.answerer) (g.A.Answerer.answers l.answerer) l.bytes l.rest l.fn.self l.self
      (g.O.Sink.state l.fn.out) (g.O.Sink.state l.out);
  ready : IsHeld l.self;
  fewer : lines_held l.fn.self < l.batches.size → lines_held l.self < l.batches.size;
  number : least_taken l.self + length l.rest ≤ least_taken l.fn.self + length l.bytes;
  goes_on : SinkGoesOn (g.O.Sink.state l.fn.out) (g.O.Sink.state l.out);
}

abbrev pub decreases-loop-line : goal.decreases-loop-line
decreases-loop-line g l = length l.rest
