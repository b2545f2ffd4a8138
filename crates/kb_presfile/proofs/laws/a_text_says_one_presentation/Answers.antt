use Rattle.std.proofs.Common.{subst}
use Rattle.kb_record.specs.Tree.{TextTree}
use Rattle.kb_presfile.specs.Holds.{HoldsPresentation}
use Rattle.kb_presfile.proofs.UniqueParts.{one_presentation}
use Rattle.kb_presfile.proofs.laws.a_text_says_one_presentation.Goals as goal

pub returns : goal.returns
returns c bytes one other a b =
    let same = c.a_text_has_one_tree.ensures bytes a.text b.text a.formed b.formed in
    let P : TextTree → Type 0 = λ text. HoldsPresentation text.fields one in
    one_presentation b.text.fields one other (subst P same a.holds) b.holds
