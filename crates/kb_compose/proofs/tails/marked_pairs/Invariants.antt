use Rattle.std.proofs.Common.{◌≡◌}
use Rattle.kb_compose.specs.Progress.{AreEndingBelow}
use Rattle.kb_compose.proofs.tails.marked_pairs.Given as goal

abbrev pub invariant-loop-pair : goal.invariant-loop-pair
invariant-loop-pair l = record {
  number_is : l.number ≡ l.pair-index;
  below : AreEndingBelow l.table l.marks l.pairs l.number l.ending.items;
}
