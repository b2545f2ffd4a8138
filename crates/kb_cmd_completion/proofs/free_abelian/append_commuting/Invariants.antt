use Rattle.std.proofs.Common.{◌≡◌, ◌≤◌, ◌<◌, ◌+◌, ◌-◌, ◌++◌}
use Rattle.kb_cmd_completion.specs.FreeAbelian.{commutes_with_next}
use Rattle.kb_cmd_completion.proofs.free_abelian.append_commuting.Given as goal

-- the generator commutes with those after it so far
abbrev pub invariant-loop-j : goal.invariant-loop-j
invariant-loop-j l =
    (l.i < l.j) × (l.j ≤ l.n) × (l.equations.items ≡ l.fn.equations.items ++ commutes_with_next l.i (l.j - (l.i + 1)))
