use Rattle.std.proofs.Common.{sym, ◌∙◌, subst}
use Rattle.std.proofs.lemmas.List.{take_rest}
use Rattle.kb_lexing.specs.Spelling.{FirstToken}
use Rattle.kb_lexing.proofs.lexer.any_lexeme.Goals as goal

pub returns-in_default-clause-first : goal.returns-in_default-clause-first
returns-in_default-clause-first c = λ token rest first.
    c.in_default.ensures token rest
    (subst (λ x. FirstToken x token rest) (sym (take_rest c.args.text.now c.gap_end.result ∙ c.gap_end.ensures.rest)) first)
