use Rattle.std.proofs.Common.{length}
use Rattle.kb_padding.specs.Cleaning.{ArePaddedTargets}
use Rattle.kb_padding.proofs.misplaced.padded_targets.Given as goal

abbrev pub invariant-loop-target : goal.invariant-loop-target
invariant-loop-target l =
    ArePaddedTargets l.track l.n l.moves.edges.items l.moves.symbols.items l.marks (length l.yielded) l.targets.items
