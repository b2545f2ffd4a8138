use Rattle.std.proofs.Common.{◌≡◌, ◌≤◌, length, slice_get, Some}
use Rattle.kb_explore.specs.Search.{IsSearching}
use Rattle.kb_explore.proofs.acceptance.next_accepts.Given as goal

-- the moves that are yielded so far are passed, and lead to no state that accepts
abbrev pub invariant-loop-symbol : goal.invariant-loop-symbol
invariant-loop-symbol g l =
    (goal.iterator-loop-symbol g).can_next l.symbol-iterator ×
    (goal.iterator-loop-symbol g).is_finite l.symbol-iterator ×
    (length l.seen.states.keys ≤ l.limit) ×
    ((state : g.row.M-State.Denot) × ((slice_get l.fn.seen.states.keys l.done ≡ Some state) ×
    IsSearching (g.M.Machine.machine l.machine) (g.M.Machine.symbols l.machine) l.seen.states.keys l.seen.origins.items l.done state
    l.yielded))
