use Rattle.std.proofs.Common.{◌≡◌, ◌<◌, length, All}
use Rattle.kb_fsamin.specs.Rounds.{class_row}
use Rattle.kb_fsamin.proofs.stability.first_classed.Given as goal

abbrev pub invariant-loop-first : goal.invariant-loop-first
invariant-loop-first l = record {
  same : class_row l.classes l.rest ≡ class_row l.classes l.moves;
  known : All (λ move. move.1 < length l.classes) l.rest;
}

abbrev pub decreases-loop-first : goal.decreases-loop-first
decreases-loop-first l = length l.rest
