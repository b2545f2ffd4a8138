use Rattle.std.proofs.Common.{◌≡◌, length}
use Rattle.kb_diff.specs.Groups.{group_of}
use Rattle.kb_labels.specs.Places.{AreFromOrigins}
use Rattle.kb_labels.proofs.placed.labels_of.Given as goal

-- each label so far comes from its origin
abbrev pub invariant-loop-place : goal.invariant-loop-place
invariant-loop-place g l =
    (length l.labels.items ≡ l.place)
    × AreFromOrigins (group_of l.presentation (g.R.Reducer.rules l.reducer)) l.origins l.labels.items
