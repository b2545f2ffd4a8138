use Rattle.std.proofs.Common.{◌≡◌, ◌≤◌, ◌-◌, length, drop}
use Rattle.kb_lexing.specs.Spelling.{after_gap}
use Rattle.kb_lexing.proofs.lexer.gap_end.Given as goal

abbrev pub invariant-loop-at : goal.invariant-loop-at
invariant-loop-at l = record {
  behind : l.fn.from ≤ l.at;
  within : l.at ≤ length l.bytes;
  same : after_gap (drop l.at l.bytes) ≡ after_gap (drop l.fn.from l.bytes);
}

abbrev pub decreases-loop-at : goal.decreases-loop-at
decreases-loop-at l = length l.bytes - l.at
