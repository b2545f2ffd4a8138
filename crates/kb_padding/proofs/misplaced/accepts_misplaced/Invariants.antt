use Rattle.std.proofs.Common.{ℕ, ◌<◌, length}
use Rattle.kb_padding.specs.Cleaning.{IsAccepted}
use Rattle.kb_padding.proofs.misplaced.accepts_misplaced.Given as goal

abbrev pub invariant-loop-target : goal.invariant-loop-target
invariant-loop-target l = (place : ℕ) → place < length l.yielded
    → ¬ IsAccepted l.n l.moves.edges.items l.moves.symbols.items l.reach.marks.items l.reach.first.items l.reach.second.items l.live place
