use Rattle.std.proofs.Common.{[], ◌∷◌, map}
use Rattle.kb_diff.specs.declared.grow.Grow.{Grow}
use Rattle.kb_diff.specs.Keeping.{AddsPairs}
use Rattle.kb_kept.specs.Finding.{Standing}
use Rattle.kb_kept.specs.Listed.{pair_of}
use Rattle.kb_kept.proofs.listing.list_differences.Given as goal

-- what is listed before an equality
abbrev pub invariant-loop-index : goal.invariant-loop-index
invariant-loop-index g l =
    (answer : Grow) → AddsPairs l.differences.group l.differences.most (map pair_of l.equalities.items) ([] ∷ []) l.differences.words answer
    → Standing l.differences.group l.differences.words answer l.equalities.items l.index 1 l.found
