use Rattle.std.proofs.Common.{subst}
use Rattle.kb_record.specs.Tree.{TextTree}
use Rattle.kb_fsafile.specs.Holds.{HoldsAutomaton}
use Rattle.kb_fsafile.proofs.UniqueAutomaton.{one_automaton}
use Rattle.kb_fsafile.proofs.laws.a_text_says_one_automaton.Goals as goal

pub returns : goal.returns
returns c bytes names others one other a b =
    let same = c.a_text_has_one_tree.ensures bytes a.text b.text a.formed b.formed in
    let P : TextTree → Type 0 = λ text. HoldsAutomaton text.fields names one in
    one_automaton b.text.fields names others one other (subst P same a.holds) b.holds
