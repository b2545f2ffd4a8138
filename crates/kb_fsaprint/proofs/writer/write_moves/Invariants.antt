use Rattle.std.proofs.Common.{[], ◌++◌}
use Rattle.std.specs.Prelude.{codes}
use Rattle.kb_layout.specs.Printing.{pieces, IsPrintedUpTo}
use Rattle.kb_fsaprint.specs.Writing.{move_text}
use Rattle.kb_fsaprint.proofs.writer.write_moves.Given as goal

abbrev pub invariant-loop-entry : goal.invariant-loop-entry
invariant-loop-entry l =
    IsPrintedUpTo move_text (codes ",") (codes "]") l.moves (codes "[" ++ (pieces move_text [] (codes ",") l.moves ++ codes "]")) l.fn.out.items
    l.entry-index l.before l.out.items
