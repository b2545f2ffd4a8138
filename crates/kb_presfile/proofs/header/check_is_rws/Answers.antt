use Rattle.std.proofs.Common.{◌≡◌, Some, sym, ap, ◌∙◌, rules}
use Rattle.std.specs.Prelude.{codes}
use Rattle.kb_record.specs.View.{value_view}
use Rattle.kb_fields.specs.Fields.{fields_view, bare_name}
use Rattle.kb_presfile.specs.declared.error.Field.TheVariants as kinds
use Rattle.kb_presfile.proofs.FaultLemmas.{kind_fault_there}
use Rattle.kb_presfile.proofs.header.check_is_rws.Goals as goal

pub returns-clause-fault : goal.returns-clause-fault
returns-clause-fault c =
    let other : value_view c.value.result.now ≡ bare_name (codes "true") → ⊥ = search rules in
    kind_fault_there (fields_view c.args.fields.now) kinds.IsRws (value_view c.value.result.now) (c.in_ok-found.ensures.found ∙ ap Some (sym c.value.ensures)) other
