use Rattle.std.proofs.Common.{◌≡◌, ◌≤◌}
use Rattle.kb_cmd_completion.specs.FreeAbelian.{generator_names}
use Rattle.kb_cmd_completion.proofs.free_abelian.generator_names.Given as goal

-- the names so far are those of the generators so far
abbrev pub invariant-loop-i : goal.invariant-loop-i
invariant-loop-i l = (l.i ≤ l.n) × (l.names ≡ generator_names l.i)
