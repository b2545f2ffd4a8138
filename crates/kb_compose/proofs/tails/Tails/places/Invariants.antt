use Rattle.std.proofs.Common.{ℕ, ◌≡◌, suc}
use Rattle.kb_explore.specs.Exploration.{numbered}
use Rattle.kb_compose.specs.Progress.{AreMovesBelow}
use Rattle.kb_compose.specs.Tails.{tail_of}
use Rattle.kb_compose.proofs.tails.Tails.places.Given as goal

abbrev pub invariant-loop-pair : goal.invariant-loop-pair
invariant-loop-pair l = record {
  number_is : l.number ≡ l.pair-index;
  below : AreMovesBelow (λ (number : ℕ). tail_of (numbered l.self.pairs.now number)) (suc l.number) l.moves.items;
}
