use Rattle.std.proofs.Common.{List, ℕ, length, sym, ◌∙◌, ap, arith, length-drop, eqb-true, eq-eqb}
use Rattle.std.proofs.lemmas.List.{drop_all}
use Rattle.kb_lexing.proofs.lexer.is_blank.Goals as goal

pub returns : goal.returns
returns c =
    let end : ℕ = c.gap_end.result in
    let bytes : List ℕ = c.args.bytes.now in (
      (λ same. sym c.gap_end.ensures.rest ∙ drop_all end bytes (omega (arith, eqb-true end (length bytes) same))),
      (λ none. eq-eqb end (length bytes) (omega (arith, length-drop end bytes, ap length (c.gap_end.ensures.rest ∙ none), c.gap_end.ensures.within.1))),
    )
