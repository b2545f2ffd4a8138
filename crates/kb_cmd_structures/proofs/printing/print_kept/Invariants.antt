use Rattle.std.proofs.Common.{◌≡◌, ◌++◌, ◌+◌, drop}
use Rattle.kb_cmd_structures.specs.Printed.{text_of_kept}
use Rattle.kb_cmd_structures.proofs.printing.print_kept.Given as goal

-- the text so far and the lines that are left are those of all
abbrev pub invariant-loop-index : goal.invariant-loop-index
invariant-loop-index l =
    l.text.items ++ text_of_kept l.names l.equalities (l.index + 2) (drop l.index l.kept) ≡ l.initial.text.items ++ text_of_kept l.names l.equalities 2 l.kept
