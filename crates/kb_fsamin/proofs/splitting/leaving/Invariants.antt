use Rattle.std.proofs.Common.{◌≢◌, ℕ, take, Contains}
use Rattle.kb_fsa.specs.Graphs.{source, end}
use Rattle.kb_fsamin.specs.Rounds.{class_of}
use Rattle.kb_fsamin.specs.Splitting.{IsLeaving}
use Rattle.kb_fsamin.proofs.splitting.leaving.Given as goal

-- the moves before have their states listed
abbrev pub invariant-loop-number : goal.invariant-loop-number
invariant-loop-number l = record {
  sound : (state : ℕ) → Contains l.listed.items state → IsLeaving l.edges l.start l.cords.of.items l.cord state;
  complete : (move : ℕ) → Contains (take l.number-index l.number-items) move → class_of l.start (source l.edges move) ≢ 0
      → Contains l.listed.items (end l.edges move);
}
