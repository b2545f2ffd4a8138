use Rattle.std.proofs.Common.{[], ◌++◌}
use Rattle.std.specs.Prelude.{codes}
use Rattle.kb_layout.specs.Printing.{pieces, IsPrintedUpTo}
use Rattle.kb_layout.proofs.WrittenTexts.{own_text}
use Rattle.kb_layout.proofs.printing.print_names.Given as goal

abbrev pub invariant-loop-place : goal.invariant-loop-place
invariant-loop-place l =
    IsPrintedUpTo own_text (codes ",") (codes "]") l.names (codes "[" ++ (pieces own_text [] (codes ",") l.names ++ codes "]")) l.fn.out.items
    l.place l.before l.out.items
