use Rattle.std.proofs.Common.{◌≡◌, suc}
use Rattle.kb_fsa.specs.Moves.{AreBackward}
use Rattle.kb_fsa.proofs.moves.reversed.Given as goal

-- the moves of the states before the row are taken
abbrev pub invariant-loop-place : goal.invariant-loop-place
invariant-loop-place l = record {
  backward : AreBackward l.table (suc l.place) 0 l.edges.items l.symbols.items;
  state : l.state ≡ l.place;
}

-- and of its state those before the symbol
abbrev pub invariant-loop-symbol : goal.invariant-loop-symbol
invariant-loop-symbol l = AreBackward l.table l.state l.symbol-index l.edges.items l.symbols.items
