use Rattle.std.proofs.Common.{◌≤◌, ◌+◌, ◌-◌, ℕ, length, drop}
use Rattle.kb_lexing.specs.Spelling.{GoesOnAsName}
use Rattle.kb_lexing.specs.Lexemes.{IsLongestFront}
use Rattle.kb_lexing.proofs.lexer.name_rest_len.Given as goal

-- the longest name behind here, behind the bytes so far, is the longest of the text
abbrev pub invariant-loop-len : goal.invariant-loop-len
invariant-loop-len l = record {
  within : l.len ≤ length l.text;
  onward : (m : ℕ) → IsLongestFront GoesOnAsName (drop l.len l.text) m → IsLongestFront GoesOnAsName l.text (l.len + m);
}

abbrev pub decreases-loop-len : goal.decreases-loop-len
decreases-loop-len l = length l.text - l.len
