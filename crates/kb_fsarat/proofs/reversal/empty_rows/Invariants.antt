use Rattle.std.proofs.Common.{◌≡◌, [], replicate}
use Rattle.kb_fsarat.proofs.reversal.empty_rows.Given as goal

-- there are as many rows as turns
abbrev pub invariant-loop : goal.invariant-loop
invariant-loop l = l.rows.items ≡ replicate l.counter []
