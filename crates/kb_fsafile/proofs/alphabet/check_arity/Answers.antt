use Rattle.std.proofs.Common.{refl}
use Rattle.std.proofs.lemmas.Result.{err_from_is_err_and}
use Rattle.kb_record.specs.Tree.{number_value}
use Rattle.kb_fields.specs.Fields.{fields_view}
use Rattle.kb_fsafile.specs.Checks.{arity_field}
use Rattle.kb_fsafile.specs.declared.error.FsaError.TheVariants as errors
use Rattle.kb_fsafile.proofs.FirstLemmas.{refused, value_refused}
use Rattle.kb_fsafile.proofs.alphabet.check_arity.Goals as goal

pub returns-in_err-needed_number-clause-fault : goal.returns-in_err-needed_number-clause-fault
returns-in_err-needed_number-clause-fault c =
    let p = err_from_is_err_and c.from_residual.result c.from_residual.ensures.1 in
    rw (p.1, p.2) (λ given is. refused given arity_field (fields_view c.args.letters.now) is _ c.in_err-needed_number.ensures.fault)

pub returns-then-branch-ne2-clause-fault : goal.returns-then-branch-ne2-clause-fault
returns-then-branch-ne2-clause-fault c = λ given is.
    let z = c.in_ok-needed_number.field-0 in
    value_refused given arity_field (fields_view c.args.letters.now) is (number_value z) c.in_ok-needed_number.ensures.found (z, refl) errors.AlphabetOther
    (refl, z, refl, λ same. c.if-branch-ne2.true (rw same refl))
