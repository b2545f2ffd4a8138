use Rattle.std.proofs.Common.{subst}
use Rattle.kb_record.specs.Tree.{TextTree}
use Rattle.kb_subfile.specs.Holds.{HoldsGenerators}
use Rattle.kb_subfile.proofs.OneFault.{one_list}
use Rattle.kb_subfile.proofs.laws.a_text_says_one_list_of_generators.Goals as goal

pub returns : goal.returns
returns c bytes parts one other a b =
    let same = c.a_text_has_one_tree.ensures bytes a.text b.text a.formed b.formed in
    let P : TextTree → Type 0 = λ text. HoldsGenerators text.fields parts one in
    one_list parts b.text.fields one other (subst P same a.holds) b.holds
