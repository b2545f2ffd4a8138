use Rattle.std.proofs.Common.{refl, sym, ◌∙◌}
use Rattle.std.specs.Prelude.{codes}
use Rattle.std.proofs.lemmas.Bool.{false≢true}
use Rattle.kb_record.specs.View.{value_view}
use Rattle.std.proofs.lemmas.Result.{err_from_is_err_and}
use Rattle.kb_fields.specs.Fields.{fields_view}
use Rattle.kb_fsafile.specs.Checks.{is_fsa_field}
use Rattle.kb_fsafile.specs.declared.error.Field.TheVariants as kinds
use Rattle.kb_fsafile.specs.declared.error.FsaError.TheVariants as errors
use Rattle.kb_fsafile.proofs.FieldFaults.{value_seen}
use Rattle.kb_fsafile.proofs.FirstLemmas.{refused}
use Rattle.kb_fsafile.proofs.header.check_is_fsa.Goals as goal

pub returns-in_err-value-clause-fault : goal.returns-in_err-value-clause-fault
returns-in_err-value-clause-fault c =
    let p = err_from_is_err_and c.from_residual.result c.from_residual.ensures.1 in
    rw (p.1, p.2) (refused (fields_view c.args.fields.now) is_fsa_field (fields_view c.args.fields.now) refl _ c.in_err-value.ensures.fault)

pub returns-then-not-is_true-clause-fault : goal.returns-then-not-is_true-clause-fault
returns-then-not-is_true-clause-fault c =
    let given = fields_view c.args.fields.now in
    refused given is_fsa_field given refl (errors.WrongKind kinds.IsFsa)
    (refl, value_view c.value.result.now, value_seen given (codes "isFSA") _ (value_view c.value.result.now) c.in_ok-value.ensures.found c.value.ensures, λ kind. false≢true (sym c.if-not-is_true.true ∙ c.is_true.ensures.1 kind))
