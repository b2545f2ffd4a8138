use Rattle.std.proofs.Common.{[], ◌++◌}
use Rattle.std.specs.Prelude.{codes}
use Rattle.kb_layout.specs.Printing.{pieces, IsPrintedUpTo}
use Rattle.kb_layout.proofs.PrintedTrees.{factor_piece}
use Rattle.kb_layout.proofs.trees.+factors.Given as goal

abbrev pub invariant-print_word-loop-factor : goal.invariant-print_word-loop-factor
invariant-print_word-loop-factor l =
    IsPrintedUpTo factor_piece (codes "*") [] l.factors (pieces factor_piece [] (codes "*") l.factors ++ []) l.fn.out.items l.factor-index l.before l.out.items
