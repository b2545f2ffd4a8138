use Rattle.std.proofs.Common.{◌++◌}
use Rattle.std.specs.Prelude.{codes}
use Rattle.kb_layout.specs.Printing.{pieces, IsPrintedUpTo}
use Rattle.kb_fsaprint.proofs.Writings.{row_text}
use Rattle.kb_fsaprint.proofs.writer.write_rows.Given as goal

abbrev pub invariant-loop-place : goal.invariant-loop-place
invariant-loop-place l =
    IsPrintedUpTo (row_text l.format) (codes ",\n") (codes "\n    ]") l.rows
    (codes "[" ++ (pieces (row_text l.format) (codes "\n") (codes ",\n") l.rows ++ codes "\n    ]")) l.fn.out.items l.place l.before l.out.items
