use Rattle.std.proofs.Common.{◌≡◌, ◌+◌, drop}
use Rattle.kb_fsaprint.specs.Printed.{move_count}
use Rattle.kb_fsaprint.proofs.writer.move_count.Given as goal

-- the moves of this row and of those behind it are still to be counted
abbrev pub invariant-loop-place : goal.invariant-loop-place
invariant-loop-place l = l.count + move_count (drop l.place l.rows) ≡ move_count l.rows
