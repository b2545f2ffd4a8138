use Rattle.std.proofs.Common.{◌≡◌, take, pos}
use Rattle.kb_lexing.specs.Spelling.{value_after}
use Rattle.kb_lexing.proofs.lexer.digits_value.Given as goal

abbrev pub invariant-loop-digit : goal.invariant-loop-digit
invariant-loop-digit l = l.value ≡ pos (value_after 0 (take l.digit-index l.digits))
