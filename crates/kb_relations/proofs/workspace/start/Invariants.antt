use Rattle.std.proofs.Common.{◌≡◌, ℕ, ◌-◌, ◌≤◌, [], length, get_or}
use Rattle.kb_relations.proofs.workspace.start.Given as goal

-- no trail knows a state, and there are not too many
abbrev pub invariant-loop-alloc : goal.invariant-loop-alloc
invariant-loop-alloc l = (length l.trails.items ≤ l.count) × ((index : ℕ) → get_or l.trails.items index [] ≡ [])

abbrev pub decreases-loop-alloc : goal.decreases-loop-alloc
decreases-loop-alloc l = l.count - length l.trails.items
