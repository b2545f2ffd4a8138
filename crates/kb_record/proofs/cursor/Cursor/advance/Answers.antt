use Rattle.std.proofs.Common.{drop, sym, ap, ◌∙◌}
use Rattle.kb_lexing.proofs.FrontTokens.{tokens_from}
use Rattle.kb_record.proofs.cursor.Cursor.advance.Goals as goal

pub next_in-self-requires : goal.next_in-self-requires
next_in-self-requires c = c.args.self.now.next.behind c.in-Some.lexeme c.in-Some.is

pub returns-in-Some-clause-passes : goal.returns-in-Some-clause-passes
returns-in-Some-clause-passes c = c.next_in-self.ensures.first ∙ ap (λ next. drop 1 (tokens_from next)) (sym c.in-Some.is)
