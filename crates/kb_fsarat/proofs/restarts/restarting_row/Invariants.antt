use Rattle.std.proofs.Common.{◌≡◌, take}
use Rattle.kb_fsarat.specs.Restarts.{restarting}
use Rattle.kb_fsarat.proofs.restarts.restarting_row.Given as goal

-- the moves so far restart
abbrev pub invariant-loop-symbol : goal.invariant-loop-symbol
invariant-loop-symbol l = l.row ≡ restarting l.table l.starts (take l.symbol-index l.moves)
