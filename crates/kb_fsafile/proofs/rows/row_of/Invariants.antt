use Rattle.std.proofs.Common.{◌≡◌, map}
use Rattle.std.specs.Map.Iter.{deref_pair}
use Rattle.kb_fsafile.specs.RowsRead.{moves_among}
use Rattle.kb_fsafile.proofs.rows.row_of.Given as goal

abbrev pub invariant-loop-symbol : goal.invariant-loop-symbol
invariant-loop-symbol l = l.moves.items ≡ moves_among (map deref_pair l.yielded)
