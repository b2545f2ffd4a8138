use Rattle.std.proofs.Common.{◌-◌, ◌≤◌}
use Rattle.kb_lines.specs.Streams.{streams, AreTold, StreamsGoOn}
use Rattle.kb_lines.specs.Progress.{IsCaughtUp}
use Rattle.kb_lines.specs.Reading.{IsReading}
use Rattle.kb_lines.proofs.lines.answer_lines.Given as goal

-- the lines that ended among the bytes that were taken are answered, and nothing is pending
abbrev pub invariant-loop-more : goal.invariant-loop-more
invariant-loop-more g l = record {
  reading : AreTold (streams (g.I.Source.state l.fn.input) (g.O.Sink.state l.fn.out))
      → IsReading (g.A.Answerer.parts l.answerer) (g.A.Answerer.answers l.answerer)
      (streams (g.I.Source.state l.fn.input) (g.O.Sink.state l.fn.out)) (streams (g.I.Source.state l.input) (g.O.Sink.state l.out))
      l.progress l.count;
  goes_on : StreamsGoOn (streams (g.I.Source.state l.fn.input) (g.O.Sink.state l.fn.out)) (streams (g.I.Source.state l.input) (g.O.Sink.state l.out));
  caught_up : IsCaughtUp l.progress;
  number : l.progress.number ≤ l.count;
  most : l.count ≤ 67108864;
}

abbrev pub decreases-loop-more : goal.decreases-loop-more
decreases-loop-more g l = 67108864 - l.count
