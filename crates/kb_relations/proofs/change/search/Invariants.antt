use Rattle.std.proofs.Common.{◌<◌, ◌≤◌, length}
use Rattle.kb_relations.proofs.change.search.Given as goal

abbrev pub invariant-loop-kept : goal.invariant-loop-kept
invariant-loop-kept l = (l.kept ≤ length l.word) × (0 < l.fewer)

abbrev pub decreases-loop-kept : goal.decreases-loop-kept
decreases-loop-kept l = l.kept
