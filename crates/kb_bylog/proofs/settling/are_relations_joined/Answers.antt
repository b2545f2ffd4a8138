use Rattle.std.proofs.Common.{◌≡◌, ◌∙◌, List, subst}
use Rattle.std.specs.Prelude.{◌↔◌, IfOk, IsTrue}
use Rattle.kb_word.specs.Presentations.{parts_of}
use Rattle.kb_word.specs.Words.{Pair}
use Rattle.kb_bylog.specs.LogLines.{AreJoined, relations}
use Rattle.kb_bylog.proofs.settling.are_relations_joined.Goals as goal

pub returns : goal.returns
returns c =
    let same : c.as_slice.result.now ≡ relations (parts_of c.args.presentation.now) = c.as_slice.ensures.value ∙ c.in_ok-relations.ensures in
    let Says : List Pair → Type 0 = λ pairs. IfOk c.are_joined.result (λ joined. IsTrue joined ↔ AreJoined c.args.index.now.rules pairs) in
    subst Says same c.are_joined.ensures
