use Rattle.std.proofs.Common.{◌≡◌}
use Rattle.kb_trie.proofs.Rows.{Copies}
use Rattle.kb_trie.proofs.table.Table.copy_row.Given as goal

abbrev pub invariant-loop-column : goal.invariant-loop-column
invariant-loop-column l = record {
  width : l.self.width ≡ l.fn.self.width;
  copies : Copies l.fn.self.rows.items l.self.rows.items l.fn.self.width l.from l.to l.column;
}
