use Rattle.std.proofs.Common.{Some, sym, ap, ◌∙◌}
use Rattle.std.proofs.lemmas.Result.{err_from_is_err_and}
use Rattle.kb_record.specs.View.{value_view, found_view}
use Rattle.kb_fields.specs.Fields.{fields_view}
use Rattle.kb_presfile.proofs.RefusalLemmas.{names_refused}
use Rattle.kb_presfile.proofs.generators.read_names.Goals as goal

pub returns-in_err-names_of-clause-fault : goal.returns-in_err-names_of-clause-fault
returns-in_err-names_of-clause-fault c =
    let p = err_from_is_err_and c.from_residual-in_err-names_of.result c.from_residual-in_err-names_of.ensures.1 in
    rw p.1 (names_refused (fields_view c.args.fields.now) (value_view c.value.result.now) _ p.0 (c.in_ok-found.ensures.found ∙ ap Some (sym c.value.ensures)) c.in_err-names_of.ensures.fault p.2)
