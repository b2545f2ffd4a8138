use Rattle.std.proofs.Common.{sym, ◌∙◌, ap}
use Rattle.std.proofs.lemmas.Option.{IfSome_then}
use Rattle.kb_record.specs.Tree.{word_value}
use Rattle.kb_record.specs.View.{value_view}
use Rattle.kb_record.proofs.Views.{view-Word}
use Rattle.kb_fields.proofs.ViewLemmas.{one_word}
use Rattle.kb_fields.proofs.Outcomes.{IfNone_then}
use Rattle.kb_fields.proofs.values.bare_name.Goals as goal

pub returns-in-Word-clause-found : goal.returns-in-Word-clause-found
returns-in-Word-clause-found c =
    let seen = ap value_view c.in-Word.is ∙ view-Word c.in-Word.word in
    IfSome_then c.bare_name.result c.bare_name.ensures.found (λ name is. seen ∙ ap word_value is)

pub returns-in-Word-clause-none : goal.returns-in-Word-clause-none
returns-in-Word-clause-none c =
    let seen = ap value_view c.in-Word.is ∙ view-Word c.in-Word.word in
    IfNone_then c.bare_name.result c.bare_name.ensures.none (λ no name is. no name (one_word (sym seen ∙ is)))
