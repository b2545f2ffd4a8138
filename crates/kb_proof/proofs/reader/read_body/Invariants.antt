use Rattle.std.proofs.Common.{◌≡◌, ◌++◌, length}
use Rattle.std.specs.Prelude.{All}
use Rattle.kb_proof.specs.Printable.{IsPrintableLine}
use Rattle.kb_proof.specs.Printed.{text_of_lines}
use Rattle.kb_proof.proofs.reader.read_body.Given as goal

-- the lines so far are what stands before the rest
abbrev pub invariant-loop-lines : goal.invariant-loop-lines
invariant-loop-lines l = record {
  whole : l.body ≡ text_of_lines l.version l.names 1 l.lines.items ++ l.rest;
  printable : All (IsPrintableLine l.version l.names) l.lines.items;
}

abbrev pub decreases-loop-lines : goal.decreases-loop-lines
decreases-loop-lines l = length l.rest
