use Rattle.std.proofs.Common.{◌≡◌, suc, [], ◌++◌, drop}
use Rattle.std.specs.Prelude.{codes}
use Rattle.kb_layout.specs.Printing.{pieces, IsPrintedUpTo}
use Rattle.kb_fsaprint.specs.Printed.{accepting_from}
use Rattle.kb_fsaprint.specs.Writing.{number_text}
use Rattle.kb_fsaprint.proofs.writer.write_accepting_list.Given as goal

abbrev pub invariant-loop-accepts : goal.invariant-loop-accepts
invariant-loop-accepts l = record {
  printed : IsPrintedUpTo number_text (codes ",") (codes "]") (accepting_from (suc l.accepts-index) (drop l.accepts-index l.accepting))
      (codes "[" ++ (pieces number_text [] (codes ",") (accepting_from 1 l.accepting) ++ codes "]")) l.fn.out.items 0 l.before l.out.items;
  state : l.state ≡ l.accepts-index;
}
