use Rattle.std.proofs.Common.{◌≡◌, ◌++◌, length, map, take}
use Rattle.kb_fsarat.specs.Restarts.{shifted}
use Rattle.kb_fsarat.proofs.concatenation.concat_rows.Given as goal

-- the rows so far are added
abbrev pub invariant-loop-place : goal.invariant-loop-place
invariant-loop-place l = l.rows.items ≡ l.initial.rows.items ++ map (shifted (length l.first.rows)) (take l.place l.others)
