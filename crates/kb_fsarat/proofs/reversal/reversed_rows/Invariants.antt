use Rattle.std.proofs.Common.{[], length, replicate}
use Rattle.kb_fsarat.specs.Reversal.{HaveAdded, TurnsFirst}
use Rattle.kb_fsarat.proofs.reversal.reversed_rows.Given as goal

-- the rows so far are turned round
abbrev pub invariant-loop-place : goal.invariant-loop-place
invariant-loop-place l = HaveAdded (replicate (length l.rows) []) l.turned.items (TurnsFirst l.rows l.place)
