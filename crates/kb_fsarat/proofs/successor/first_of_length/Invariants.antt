use Rattle.std.proofs.Common.{◌≡◌}
use Rattle.kb_fsarat.specs.Successors.{NoneOfLength}
use Rattle.kb_fsarat.proofs.successor.first_of_length.Given as goal

-- no accepted text is of a length so far
abbrev pub invariant-loop-length : goal.invariant-loop-length
invariant-loop-length l = (l.layers.table ≡ l.initial.layers.table) × NoneOfLength l.initial.layers.table l.low l.length
