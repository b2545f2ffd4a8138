use Rattle.std.proofs.Common.{IsTrue, length}
use Rattle.kb_io.specs.States.{SinkGoesOn}
use Rattle.kb_io.proofs.Writing.{WrittenSoFar}
use Rattle.kb_io.proofs.sink.write_all.Given as goal

-- what was written is what stood before and the bytes that were taken, and the count has not fallen
abbrev pub invariant-loop-rest : goal.invariant-loop-rest
invariant-loop-rest g l = record {
  goes_on : SinkGoesOn (g.S.Sink.state l.initial.sink) (g.S.Sink.state l.sink);
  written : IsTrue (g.S.Sink.state l.initial.sink).told
      → WrittenSoFar (g.S.Sink.state l.initial.sink).written (g.S.Sink.state l.sink).written l.bytes l.rest;
}

abbrev pub decreases-loop-rest : goal.decreases-loop-rest
decreases-loop-rest g l = length l.rest
