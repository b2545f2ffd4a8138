use Rattle.std.proofs.Common.{◌≡◌, take}
use Rattle.kb_fsarat.specs.Restarts.{shifted}
use Rattle.kb_fsarat.proofs.concatenation.shifted_row.Given as goal

-- the moves so far are shifted
abbrev pub invariant-loop-symbol : goal.invariant-loop-symbol
invariant-loop-symbol l = l.row ≡ shifted l.count (take l.symbol-index l.moves)
