use Rattle.std.proofs.Common.{length}
use Rattle.kb_lexing.proofs.FrontTokens.{Onward}
use Rattle.kb_lexing.proofs.lexer.has_tokens.Given as goal

abbrev pub invariant-loop-lexeme : goal.invariant-loop-lexeme
invariant-loop-lexeme l = Onward l.bytes l.rest

abbrev pub decreases-loop-lexeme : goal.decreases-loop-lexeme
decreases-loop-lexeme l = length l.rest
