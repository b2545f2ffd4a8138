use Rattle.std.proofs.Common.{List, subst}
use Rattle.kb_lexing.specs.Token.{Token}
use Rattle.kb_record.specs.Grammar.{IsText}
use Rattle.kb_lexing.proofs.OneToken.{one_list}
use Rattle.kb_record.proofs.Unique.{one_text}
use Rattle.kb_record.proofs.laws.a_text_has_one_tree.Goals as goal

pub returns : goal.returns
returns c bytes one other g h =
    let P : List Token → Type 0 = λ ts. IsText ts one in
    one_text h.tokens one other (subst P (one_list bytes g.tokens h.tokens g.spelled h.spelled) g.formed) h.formed
