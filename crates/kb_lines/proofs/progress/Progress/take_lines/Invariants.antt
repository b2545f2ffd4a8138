use Rattle.std.proofs.Common.{◌+◌, ◌≤◌, length}
use Rattle.kb_io.specs.States.{SinkGoesOn}
use Rattle.kb_lines.specs.WordLines.{IsOneLine}
use Rattle.kb_lines.specs.Progress.{IsReady, Advances}
use Rattle.kb_lines.proofs.progress.Progress.take_lines.Given as goal

-- the lines before the rest of the bytes are answered
abbrev pub invariant-loop-line : goal.invariant-loop-line
invariant-loop-line g l = record {
  advances : IsReady l.fn.self (g.O.Sink.state l.fn.out)
      → Advances (g.A.Answerer.parts l.answerer) (g.A.Answerer.answers l.answerer) l.bytes l.rest l.fn.self l.self
      (g.O.Sink.state l.fn.out) (g.O.Sink.state l.out);
  open_line : IsOneLine l.fn.self.line.items → IsOneLine l.self.line.items;
  number : l.self.number + length l.rest ≤ l.fn.self.number + length l.bytes;
  goes_on : SinkGoesOn (g.O.Sink.state l.fn.out) (g.O.Sink.state l.out);
}

abbrev pub decreases-loop-line : goal.decreases-loop-line
decreases-loop-line g l = length l.rest
