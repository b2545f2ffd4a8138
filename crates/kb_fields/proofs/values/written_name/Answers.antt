use Rattle.std.proofs.Common.{Some, sym, ap, ◌∙◌}
use Rattle.std.proofs.lemmas.Option.{IfSome_then}
use Rattle.kb_record.specs.Tree.{word_value}
use Rattle.kb_fields.proofs.ViewLemmas.{one_word_at}
use Rattle.kb_fields.proofs.Outcomes.{IfNone_then}
use Rattle.kb_fields.proofs.values.written_name.Goals as goal

pub returns-clause-found : goal.returns-clause-found
returns-clause-found c = IfSome_then c.bare_name.result c.bare_name.ensures.found (λ name is. c.in_ok-word.ensures.found ∙ ap (λ fs. Some (word_value fs)) is)

pub returns-clause-none : goal.returns-clause-none
returns-clause-none c = IfNone_then c.bare_name.result c.bare_name.ensures.none (λ no name is. no name (one_word_at (sym c.in_ok-word.ensures.found ∙ is)))
