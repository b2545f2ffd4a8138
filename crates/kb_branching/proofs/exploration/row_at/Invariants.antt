use Rattle.std.proofs.Common.{◌≤◌, length}
use Rattle.kb_branching.specs.Progress.{AreNumberedMoves, AreReached, KeepNumbers}
use Rattle.kb_branching.proofs.exploration.row_at.Given as goal

-- the moves that are yielded so far are numbered
abbrev pub invariant-loop-symbol : goal.invariant-loop-symbol
invariant-loop-symbol g l =
    (goal.iterator-loop-symbol g).can_next l.symbol-iterator × (goal.iterator-loop-symbol g).is_finite l.symbol-iterator
    × (length l.states.keys ≤ l.limit) × AreReached (g.M.Branching.machine l.machine) l.states.keys
    × KeepNumbers l.fn.states.keys l.states.keys × AreNumberedMoves l.states.keys l.row l.yielded
