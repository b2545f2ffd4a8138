use Rattle.std.proofs.Common.{◌-◌, ◌≤◌, length}
use Rattle.kb_explore.specs.Search.{IsSearched}
use Rattle.kb_explore.proofs.acceptance.first_accepted.Given as goal

-- the moves of the first states are passed, none of those seen accepts, and they are within the limit
abbrev pub invariant-loop-done : goal.invariant-loop-done
invariant-loop-done g l =
    (length l.seen.states.keys ≤ l.limit) ×
    IsSearched (g.M.Machine.machine l.machine) (g.M.Machine.symbols l.machine) l.seen.states.keys l.seen.origins.items l.done

abbrev pub decreases-loop-done : goal.decreases-loop-done
decreases-loop-done g l = l.limit - l.done
