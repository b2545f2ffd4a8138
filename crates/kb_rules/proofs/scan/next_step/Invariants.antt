use Rattle.std.proofs.Common.{◌≡◌, ◌++◌, length}
use Rattle.kb_word.specs.Words.{OneOf}
use Rattle.kb_word.specs.Rewriting.{IsIrreducible}
use Rattle.kb_rules.proofs.scan.next_step.Given as goal

abbrev pub invariant-loop-letter : goal.invariant-loop-letter
invariant-loop-letter l = record {
  irreducible : IsIrreducible (OneOf l.list.rules) l.front;
  whole : l.front ++ l.unread ≡ l.initial.front ++ l.initial.unread;
}

abbrev pub decreases-loop-letter : goal.decreases-loop-letter
decreases-loop-letter l = length l.unread
