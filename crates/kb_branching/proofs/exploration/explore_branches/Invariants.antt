use Rattle.std.proofs.Common.{◌-◌, ◌≤◌, length}
use Rattle.kb_branching.specs.Progress.{AreNumbers, AreReached, AreRows}
use Rattle.kb_branching.proofs.exploration.explore_branches.Given as goal

-- the starts are numbered, and the first states have their rows
abbrev pub invariant-loop-states : goal.invariant-loop-states
invariant-loop-states g l =
    (length l.states.keys ≤ l.limit) × AreReached (g.M.Branching.machine l.machine) l.states.keys
    × AreNumbers l.states.keys l.starts.items (g.M.Branching.machine l.machine).starts
    × AreRows (g.M.Branching.machine l.machine) l.states.keys l.rows.items

abbrev pub decreases-loop-states : goal.decreases-loop-states
decreases-loop-states g l = l.limit - length l.rows.items
