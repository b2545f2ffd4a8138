use Rattle.std.proofs.Common.{◌≡◌, List, ◌∷◌, sym, ap, ◌∙◌}
use Rattle.kb_lexing.specs.Token.{name, rec_word}
use Rattle.kb_lexing.specs.Lexemes.{token_view}
use Rattle.kb_record.specs.Reading.{remaining, behind_next}
use Rattle.kb_record.specs.NamesMet.{Bracket, names_met}
use Rattle.kb_record.proofs.repeats.next_step.Goals as goal

pub returns-in-Rec-clause-step : goal.returns-in-Rec-clause-step
returns-in-Rec-clause-step c = λ (f : Bracket) (fs : List Bracket).
    let whole : remaining c.args.tokens.now ≡ rec_word ∷ remaining c.advance.new.self =
    c.in_ok-token.ensures ∙ ap (λ t. token_view t ∷ behind_next c.args.tokens.now) c.in-Rec.is ∙ ap (λ ts. rec_word ∷ ts) (sym c.advance.ensures.passes) in
    ap (λ ts. names_met ts f fs) whole ∙ c.behind_rec.ensures.step f fs

pub returns-in-Name-clause-step : goal.returns-in-Name-clause-step
returns-in-Name-clause-step c = λ (f : Bracket) (fs : List Bracket).
    let whole : remaining c.args.tokens.now ≡ name c.in-Name.name.now ∷ remaining c.advance.new.self =
    c.in_ok-token.ensures ∙ ap (λ t. token_view t ∷ behind_next c.args.tokens.now) c.in-Name.is ∙ ap (λ ts. name c.in-Name.name.now ∷ ts) (sym c.advance.ensures.passes) in
    ap (λ ts. names_met ts f fs) whole ∙ c.behind_a_name.ensures.step f fs
