use Rattle.std.proofs.Common.{take}
use Rattle.kb_fsafile.specs.RowsRead.{HasEntries}
use Rattle.kb_fsafile.proofs.rows.by_symbol.Given as goal

abbrev pub invariant-loop-pair : goal.invariant-loop-pair
invariant-loop-pair l = HasEntries l.size l.count (take l.pair-index l.pairs) l.entries
