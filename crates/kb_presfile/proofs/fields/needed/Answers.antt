use Rattle.std.proofs.Common.{◌≡◌, None, ap, ◌∙◌}
use Rattle.std.specs.Option.{option_map}
use Rattle.kb_record.specs.View.{found_view}
use Rattle.kb_fields.specs.Fields.{fields_view, value_of}
use Rattle.kb_presfile.specs.Faults.{name_of}
use Rattle.kb_presfile.proofs.FaultLemmas.{missing_fault}
use Rattle.kb_presfile.proofs.fields.needed.Goals as goal

pub returns-in-None-clause-fault : goal.returns-in-None-clause-fault
returns-in-None-clause-fault c =
    let named = c.in_ok-found.ensures ∙ ap (option_map found_view) c.in-None.is in
    let absent : value_of (fields_view c.args.fields.now) (name_of c.args.field) ≡ None = cc (c.name.ensures, named) in
    missing_fault (fields_view c.args.fields.now) c.args.field c.requires absent
