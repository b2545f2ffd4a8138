use Rattle.std.proofs.Common.{refl}
use Rattle.kb_record.specs.Tree.{string_value}
use Rattle.std.proofs.lemmas.Result.{err_from_is_err_and}
use Rattle.kb_fields.specs.Fields.{fields_view}
use Rattle.kb_fsafile.specs.Checks.{base_type_field}
use Rattle.kb_fsafile.specs.declared.error.FsaError.TheVariants as errors
use Rattle.kb_fsafile.proofs.FirstLemmas.{refused, value_refused}
use Rattle.kb_fsafile.proofs.alphabet.check_base.Goals as goal

pub returns-in_err-needed_string-clause-fault : goal.returns-in_err-needed_string-clause-fault
returns-in_err-needed_string-clause-fault c =
    let p = err_from_is_err_and c.from_residual.result c.from_residual.ensures.1 in
    rw (p.1, p.2) (λ given is. refused given base_type_field (fields_view c.args.base.now) is _ c.in_err-needed_string.ensures.fault)

pub returns-in_default-clause-fault : goal.returns-in_default-clause-fault
returns-in_default-clause-fault c = λ given is.
    let text = c.in_ok-needed_string.field-0.now in
    value_refused given base_type_field (fields_view c.args.base.now) is (string_value text) c.in_ok-needed_string.ensures.found
    (text, refl) errors.AlphabetOther (refl, text, refl, c.in_default.not-identifiers)
