use Rattle.std.proofs.Common.{◌≡◌, ◌++◌}
use Rattle.kb_layout.specs.Layout.{indent}
use Rattle.kb_layout.proofs.printing.print_blanks.Given as goal

abbrev pub invariant-loop-i : goal.invariant-loop-i
invariant-loop-i l = l.out.items ≡ l.fn.out.items ++ indent l._i
