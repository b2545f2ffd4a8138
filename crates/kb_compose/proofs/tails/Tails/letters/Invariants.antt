use Rattle.std.proofs.Common.{◌≤◌, ◌<◌, ◌+◌, ◌-◌}
use Rattle.kb_compose.specs.Progress.{AreMovesBelow}
use Rattle.kb_compose.specs.Tails.{tail_after}
use Rattle.kb_compose.proofs.tails.Tails.letters.Given as goal

abbrev pub invariant-loop-letter : goal.invariant-loop-letter
invariant-loop-letter l = record {
  positive : 0 < l.letter;
  within : l.letter ≤ l.self.symbols.n + 1;
  below : AreMovesBelow (tail_after l.self.symbols.n l.self.first.now l.self.second.now l.pair) l.letter l.moves.items;
}

abbrev pub decreases-loop-letter : goal.decreases-loop-letter
decreases-loop-letter l = l.padding - l.letter
