use Rattle.std.proofs.Common.{◌≡◌, ◌≤◌, ◌-◌}
use Rattle.kb_cmd_completion.specs.FreeAbelian.{commuting}
use Rattle.kb_cmd_completion.proofs.free_abelian.commuting.Given as goal

-- the generators so far commute with all after them
abbrev pub invariant-loop-i : goal.invariant-loop-i
invariant-loop-i l = (l.i ≤ l.n) × (l.equations.items ≡ commuting l.i (l.n - l.i))
