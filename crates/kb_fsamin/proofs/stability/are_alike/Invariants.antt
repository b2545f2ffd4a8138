use Rattle.std.proofs.Common.{◌≡◌, ◌<◌, ◌++◌, length, take, All}
use Rattle.kb_fsamin.specs.Rounds.{class_row}
use Rattle.kb_fsamin.proofs.stability.are_alike.Given as goal

abbrev pub invariant-loop-symbol : goal.invariant-loop-symbol
invariant-loop-symbol l = record {
  same : class_row l.classes l.other ≡ class_row l.classes (take l.symbol-index l.one) ++ class_row l.classes l.rest;
  known : All (λ move. move.1 < length l.classes) l.rest;
}
