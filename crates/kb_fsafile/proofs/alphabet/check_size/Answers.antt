use Rattle.std.proofs.Common.{refl, arith}
use Rattle.std.proofs.lemmas.Result.{err_from_is_err_and}
use Rattle.kb_fields.specs.Fields.{fields_view}
use Rattle.kb_fsafile.specs.Kinds.{count_value}
use Rattle.kb_fsafile.specs.Checks.{names_size_field}
use Rattle.kb_fsafile.specs.declared.error.FsaError.TheVariants as errors
use Rattle.kb_fsafile.proofs.FirstLemmas.{refused, value_refused}
use Rattle.kb_fsafile.proofs.alphabet.check_size.Goals as goal

pub returns-in_err-needed_count-clause-fault : goal.returns-in_err-needed_count-clause-fault
returns-in_err-needed_count-clause-fault c =
    let p = err_from_is_err_and c.from_residual.result c.from_residual.ensures.1 in
    rw (p.1, p.2) (λ given has. refused given names_size_field (fields_view c.args.letters.now) has _ c.in_err-needed_count.ensures.fault)

pub returns-then-branch-len-clause-fault : goal.returns-then-branch-len-clause-fault
returns-then-branch-len-clause-fault c = λ given has.
    let n = c.in_ok-needed_count.field-0 in
    value_refused given names_size_field (fields_view c.args.letters.now) has (count_value n) c.in_ok-needed_count.ensures.found (n, refl) errors.AlphabetOther
    (refl, c.args.names.now, n, c.requires, refl, λ same. c.if-branch-len.true (omega arith))
