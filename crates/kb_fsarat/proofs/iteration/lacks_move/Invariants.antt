use Rattle.std.proofs.Common.{◌≡◌, false, length, nat_lt, take}
use Rattle.std.specs.List.{list_any}
use Rattle.kb_fsarat.proofs.iteration.lacks_move.Given as goal

-- none of the rows so far is too short
abbrev pub invariant-loop-place : goal.invariant-loop-place
invariant-loop-place l = list_any (λ row. nat_lt (length row) l.symbols) (take l.place l.rows) ≡ false
