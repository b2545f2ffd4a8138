use Rattle.std.proofs.Common.{◌≡◌, ◌≤◌}
use Rattle.kb_cmd_completion.specs.FreeAbelian.{generator_inverses}
use Rattle.kb_cmd_completion.proofs.free_abelian.generator_inverses.Given as goal

-- the inverses so far are those of the generators so far
abbrev pub invariant-loop-i : goal.invariant-loop-i
invariant-loop-i l = (l.i ≤ l.n) × (l.inverses.items ≡ generator_inverses l.i)
