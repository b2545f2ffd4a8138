use Rattle.std.proofs.Common.{◌≡◌, map, take}
use Rattle.kb_fsarat.specs.Restarts.{restarting}
use Rattle.kb_fsarat.proofs.restarts.restarting_rows.Given as goal

-- the rows so far restart
abbrev pub invariant-loop-place : goal.invariant-loop-place
invariant-loop-place l = l.restarting.items ≡ map (restarting l.table l.starts) (take l.place l.rows)
