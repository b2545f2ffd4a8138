use Rattle.std.proofs.Common.{[], ◌++◌}
use Rattle.std.specs.Prelude.{codes}
use Rattle.kb_layout.specs.Printing.{pieces, IsPrintedUpTo}
use Rattle.kb_presprint.specs.Writing.{inverse_text}
use Rattle.kb_presprint.proofs.writer.write_inverses.Given as goal

abbrev pub invariant-loop-inverse : goal.invariant-loop-inverse
invariant-loop-inverse l =
    IsPrintedUpTo (inverse_text l.names) (codes ",") (codes "]") l.inverses
    (codes "[" ++ (pieces (inverse_text l.names) [] (codes ",") l.inverses ++ codes "]")) l.fn.out.items l.inverse-index l.before l.out.items
