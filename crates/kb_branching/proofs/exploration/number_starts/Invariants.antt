use Rattle.std.proofs.Common.{◌≤◌, length}
use Rattle.kb_branching.specs.Progress.{AreNumbers, AreReached}
use Rattle.kb_branching.proofs.exploration.number_starts.Given as goal

-- the starts that are yielded so far are numbered
abbrev pub invariant-loop-state : goal.invariant-loop-state
invariant-loop-state g l =
    (goal.iterator-loop-state g).can_next l.state-iterator × (goal.iterator-loop-state g).is_finite l.state-iterator
    × (length l.states.keys ≤ l.limit) × AreReached (g.M.Branching.machine l.machine) l.states.keys
    × AreNumbers l.states.keys l.numbers.items l.yielded
