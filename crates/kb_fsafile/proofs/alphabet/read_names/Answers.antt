use Rattle.std.specs.Prelude.{codes}
use Rattle.std.proofs.lemmas.Result.{err_from_is_err_and}
use Rattle.kb_record.specs.View.{value_view}
use Rattle.kb_fields.specs.Fields.{fields_view}
use Rattle.kb_fsafile.specs.Checks.{names_field}
use Rattle.kb_fsafile.proofs.FieldFaults.{value_seen}
use Rattle.kb_fsafile.proofs.FirstLemmas.{refused}
use Rattle.kb_fsafile.proofs.alphabet.read_names.Goals as goal

pub returns-in_err-value-clause-fault : goal.returns-in_err-value-clause-fault
returns-in_err-value-clause-fault c =
    let p = err_from_is_err_and c.from_residual.result c.from_residual.ensures.1 in
    rw (p.1, p.2) (λ given has. refused given names_field (fields_view c.args.letters.now) has _ c.in_err-value.ensures.fault)

pub returns-clause-fault : goal.returns-clause-fault
returns-clause-fault c =
    let letters = fields_view c.args.letters.now in
    let seen = value_seen letters (codes "names") _ (value_view c.value.result.now) c.in_ok-value.ensures.found c.value.ensures in
    c.refusal_of.ensures letters (value_view c.value.result.now) seen c.in-Err.ensures.fault
