use Rattle.std.proofs.Common.{[], true≢false, sym, ◌∙◌}
use Rattle.kb_lexing.proofs.FrontTokens.{onward_goes, onward_stops}
use Rattle.kb_lexing.proofs.lexer.has_tokens.Goals as goal

pub loop-lexeme-preserved : goal.loop-lexeme-preserved
loop-lexeme-preserved c =
    onward_goes c.args.bytes.now c.loop-lexeme.rest.now c.in-Some.lexeme c.loop-lexeme.invariant c.in-Some.ensures.first

pub returns-clause-all : goal.returns-clause-all
returns-clause-all c = λ blank. c.loop-lexeme.invariant.onward [] (c.is_blank.ensures.0 blank)

pub returns-clause-none : goal.returns-clause-none
returns-clause-none c = λ other.
    onward_stops c.args.bytes.now c.loop-lexeme.rest.now c.loop-lexeme.invariant c.in_default.ensures.first
    (λ blank. true≢false (sym (c.is_blank.ensures.1 blank) ∙ other))
