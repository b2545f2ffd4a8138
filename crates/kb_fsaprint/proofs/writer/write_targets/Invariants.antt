use Rattle.std.proofs.Common.{◌+◌, ◌-◌, [], ◌++◌}
use Rattle.std.specs.Prelude.{codes}
use Rattle.kb_layout.specs.Printing.{pieces}
use Rattle.kb_fsaprint.specs.Printed.{targets_from}
use Rattle.kb_fsaprint.specs.Writing.{number_text, IsRowPrinted}
use Rattle.kb_fsaprint.proofs.writer.write_targets.Given as goal

abbrev pub invariant-loop-place : goal.invariant-loop-place
invariant-loop-place l =
    IsRowPrinted l.row (l.place + 1) (l.symbols - l.place) l.left
    (codes "[" ++ (pieces number_text [] (codes ",") (targets_from l.row 1 l.symbols) ++ codes "]")) l.fn.out.items l.before l.out.items
