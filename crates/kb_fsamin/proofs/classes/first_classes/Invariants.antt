use Rattle.std.proofs.Common.{◌+◌}
use Rattle.kb_fsamin.specs.Firsts.{AreByNumber}
use Rattle.kb_fsamin.proofs.classes.first_classes.Given as goal

abbrev pub invariant-loop-place : goal.invariant-loop-place
invariant-loop-place l = AreByNumber l.marks l.numbers (l.place + 1) l.classes.items
