use Rattle.std.proofs.Common.{◌≡◌, take}
use Rattle.kb_fsafile.specs.RowsRead.{AreRowTargets}
use Rattle.kb_fsafile.proofs.rows.dense_row.Given as goal

abbrev pub invariant-loop-number : goal.invariant-loop-number
invariant-loop-number l = record {
  same : l.symbol ≡ l.number-index;
  are : AreRowTargets l.count (take l.number-index l.numbers) l.moves.items;
}
