use Rattle.std.proofs.Common.{rules, arith, ◌≡◌, ℕ, List, inl, inr, refl, sym, get_or, subst}
use Rattle.kb_lexing.specs.Token.{Token, comma, open_square, close_square}
use Rattle.kb_lexing.specs.Spelling.{FirstToken, after_gap}
use Rattle.kb_lexing.proofs.Begun.{mark_first}
use Rattle.kb_lexing.proofs.lexer.first_lexeme.Goals as goal

-- the lexeme of a mark, with what stands behind it
of_parts : (text : List ℕ) (token seen : Token) (rest behind : List ℕ) → FirstToken (after_gap text) token behind → seen ≡ token → rest ≡ behind → FirstToken (after_gap text) seen rest
of_parts text token seen rest behind first e w = subst (λ t. FirstToken (after_gap text) t rest) (sym e) (subst (λ r. FirstToken (after_gap text) token r) (sym w) first)

pub returns-in-44-clause-first : goal.returns-in-44-clause-first
returns-in-44-clause-first c =
    let text = c.args.text.now in
    let at : get_or text 0 0 ≡ 44 = search rules in
    of_parts text comma _ _ _ (mark_first comma 44 text (inr (inr (inr (inr (inl refl))))) refl (omega (arith, c.in-44.len_at_least)) at) c.lexeme.ensures.token c.lexeme.ensures.rest

pub returns-in-91-clause-first : goal.returns-in-91-clause-first
returns-in-91-clause-first c =
    let text = c.args.text.now in
    let at : get_or text 0 0 ≡ 91 = search rules in
    of_parts text open_square _ _ _ (mark_first open_square 91 text (inr (inr (inl refl))) refl (omega (arith, c.in-91.len_at_least)) at) c.lexeme-in-91.ensures.token c.lexeme-in-91.ensures.rest

pub returns-in-93-clause-first : goal.returns-in-93-clause-first
returns-in-93-clause-first c =
    let text = c.args.text.now in
    let at : get_or text 0 0 ≡ 93 = search rules in
    of_parts text close_square _ _ _ (mark_first close_square 93 text (inr (inr (inr (inl refl)))) refl (omega (arith, c.in-93.len_at_least)) at) c.lexeme-in-93.ensures.token c.lexeme-in-93.ensures.rest
