use Rattle.std.proofs.Common.{◌+◌}
use Rattle.kb_diff.specs.declared.grow.Grow.{Grow}
use Rattle.kb_kept.specs.Finding.{Standing}
use Rattle.kb_kept.proofs.listing.Found.list_equality.Given as goal

-- what is listed before a place
abbrev pub invariant-loop-place : goal.invariant-loop-place
invariant-loop-place g l =
    (answer : Grow) → Standing l.differences.group l.differences.words answer l.equalities l.index 1 l.initial.self
    → Standing l.differences.group l.differences.words answer l.equalities l.index (l.place + 1) l.self
