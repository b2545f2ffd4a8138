use Rattle.std.proofs.Common.{◌-◌, ◌≤◌, length}
use Rattle.kb_explore.specs.Progress.{Progress}
use Rattle.kb_explore.proofs.exploration.explore.Given as goal

-- the first states have their rows, and the states are within the limit
abbrev pub invariant-loop-seen : goal.invariant-loop-seen
invariant-loop-seen g l =
    (length l.seen.states.keys ≤ l.limit) ×
    Progress (g.M.Machine.machine l.machine) (g.M.Machine.symbols l.machine) l.seen.states.keys l.seen.origins.items l.rows

abbrev pub decreases-loop-seen : goal.decreases-loop-seen
decreases-loop-seen g l = l.limit - length l.rows
