use Rattle.std.proofs.Common.{◌≡◌, ◌+◌, ◌-◌, ◌≤◌}
use Rattle.kb_fsarat.proofs.layers.Layers.reach.Given as goal

-- sets are added to those of the same table
abbrev pub invariant-loop-alloc : goal.invariant-loop-alloc
invariant-loop-alloc l = (l.self.table ≡ l.initial.self.table) × (l.initial.self.count ≤ l.self.count)

abbrev pub decreases-loop-alloc : goal.decreases-loop-alloc
decreases-loop-alloc l = l.length + 1 - l.self.count
