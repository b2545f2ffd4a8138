use Rattle.std.proofs.Common.{refl, ap, ◌∙◌}
use Rattle.std.specs.Option.{option_map}
use Rattle.kb_record.specs.Tree.{number_value}
use Rattle.std.proofs.lemmas.Result.{err_from_is_err_and}
use Rattle.kb_fields.specs.Fields.{fields_view}
use Rattle.kb_fsafile.specs.Checks.{default_field}
use Rattle.kb_fsafile.specs.declared.error.FsaError.TheVariants as errors
use Rattle.kb_fsafile.proofs.FirstLemmas.{refused, value_refused}
use Rattle.kb_fsafile.proofs.table.check_default.Goals as goal

pub returns-in_err-target-clause-fault : goal.returns-in_err-target-clause-fault
returns-in_err-target-clause-fault c =
    let p = err_from_is_err_and c.from_residual.result c.from_residual.ensures.1 in
    rw (p.1, p.2) (λ given is. refused given default_field (fields_view c.args.table.now) is _ c.in_err-target.ensures.fault)

pub returns-then-target-ne0-clause-fault : goal.returns-then-target-ne0-clause-fault
returns-then-target-ne0-clause-fault c = λ given is.
    let z = c.in-Some.target in
    value_refused given default_field (fields_view c.args.table.now) is (number_value z) (c.in_ok-target.ensures.found ∙ ap (option_map number_value) c.in-Some.is) (z, refl)
    errors.NotDeterministic (refl, z, refl, λ same. c.if-target-ne0.true (rw same refl))
