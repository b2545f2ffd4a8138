use Rattle.std.proofs.Common.{◌≢◌, Some, sym, ap, ◌∙◌, rules}
use Rattle.std.specs.Prelude.{codes}
use Rattle.std.specs.Option.{option_map}
use Rattle.kb_record.specs.View.{value_view, found_view}
use Rattle.kb_fields.specs.Fields.{fields_view}
use Rattle.kb_presfile.specs.declared.error.Field.TheVariants as kinds
use Rattle.kb_presfile.proofs.FaultLemmas.{kind_fault, ordering_fault}
use Rattle.kb_presfile.proofs.order.read_ordering.Goals as goal

pub returns-in_default-string_of-clause-fault : goal.returns-in_default-string_of-clause-fault
returns-in_default-string_of-clause-fault c =
    kind_fault (fields_view c.args.fields.now) kinds.Ordering (value_view c.value.result.now)
    (c.in_ok-found.ensures ∙ ap (option_map found_view) c.in-Some.is ∙ ap Some (sym c.value.ensures))
    (λ kind. c.in_default-string_of.ensures.none kind.0 kind.1)

pub returns-clause-fault : goal.returns-clause-fault
returns-clause-fault c =
    let text = c.in-Some-string_of.text.now in
    let not_shortlex : text ≢ codes "shortlex" = search rules in
    let not_wtlex : text ≢ codes "wtlex" = search rules in
    ordering_fault (fields_view c.args.fields.now) text
    (c.in_ok-found.ensures ∙ ap (option_map found_view) c.in-Some.is ∙ ap Some (sym c.value.ensures ∙ c.in-Some-string_of.ensures.found)) not_shortlex not_wtlex
