use Rattle.std.proofs.Common.{◌≡◌, ◌++◌, take}
use Rattle.kb_proof.specs.Printed.{text_of_lines}
use Rattle.kb_proof.proofs.printing.print_lines.Given as goal

-- the lines before this one are printed
abbrev pub invariant-loop-index : goal.invariant-loop-index
invariant-loop-index l = l.out.items ≡ l.fn.out.items ++ text_of_lines l.version l.names 1 (take l.index l.lines)
