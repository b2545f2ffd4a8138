use Rattle.std.proofs.Common.{take}
use Rattle.kb_record.specs.View.{value_view, places_of}
use Rattle.kb_record.specs.Listed.{listed}
use Rattle.kb_fsafile.specs.RowsRead.{AreRowsAt}
use Rattle.kb_fsafile.proofs.table.rows_listed.Given as goal

abbrev pub invariant-loop-place : goal.invariant-loop-place
invariant-loop-place l = AreRowsAt l.size l.count l.format (places_of (take l.place (listed (value_view l.list)))) l.rows
