use Rattle.std.proofs.Common.{◌≡◌, false, replicate}
use Rattle.kb_fsadet.proofs.marks.unmarked_rows.Given as goal

-- there are as many rows as turns
abbrev pub invariant-loop : goal.invariant-loop
invariant-loop l = l.rows.items ≡ replicate l.counter (replicate l.states false)
