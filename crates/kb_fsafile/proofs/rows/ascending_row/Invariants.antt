use Rattle.std.proofs.Common.{take}
use Rattle.kb_fsafile.specs.RowsRead.{AreAscendingEntries}
use Rattle.kb_fsafile.proofs.rows.ascending_row.Given as goal

abbrev pub invariant-loop-pair : goal.invariant-loop-pair
invariant-loop-pair l = AreAscendingEntries l.size l.count l.last (take l.pair-index l.pairs) l.moves.items
