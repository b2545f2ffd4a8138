use Rattle.std.proofs.Common.{Some, sym, ap, ◌∙◌, arith}
use Rattle.std.specs.Option.{option_map}
use Rattle.std.proofs.lemmas.Option.{MatchOption-at_none}
use Rattle.kb_record.specs.View.{value_view, found_view}
use Rattle.kb_fields.specs.Fields.{fields_view}
use Rattle.kb_presfile.specs.declared.error.Field.TheVariants as kinds
use Rattle.kb_presfile.proofs.FaultLemmas.{kind_fault}
use Rattle.kb_presfile.proofs.inverses.read_places.Goals as goal

pub returns-clause-fault : goal.returns-clause-fault
returns-clause-fault c =
    let other = MatchOption-at_none _ _ c.in-None.is c.in_ok-places.ensures.other in
    kind_fault (fields_view c.args.fields.now) kinds.Inverses (value_view c.value.result.now)
    (c.in_ok-found.ensures ∙ ap (option_map found_view) c.in-Some.is ∙ ap Some (sym c.value.ensures))
    (λ kind. let listed = kind c.args.names.now c.requires in
    let named = other listed.0 listed.1 in
    named.2 (listed.2 named.0 (omega (arith, named.1))))
