use Rattle.std.proofs.Common.{◌≡◌, ◌∙◌, List, IfOk, subst}
use Rattle.kb_word.specs.Presentations.{parts_of}
use Rattle.kb_word.specs.Words.{Pair}
use Rattle.kb_cmd_words.specs.Confluence.{relations}
use Rattle.kb_cmd_words.specs.LogLines.{RelationsSay}
use Rattle.kb_cmd_words.proofs.joining.relation_apart.Goals as goal

pub returns : goal.returns
returns c =
    let same : c.as_slice.result.now ≡ relations (parts_of c.args.presentation.now) = c.as_slice.ensures.value ∙ c.in_ok-relations.ensures in
    let Says : List Pair → Type 0 = λ pairs. IfOk c.first_apart.result (RelationsSay c.args.reducer.now.rules pairs) in
    subst Says same c.first_apart.ensures
