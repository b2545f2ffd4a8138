use Rattle.std.proofs.Common.{refl}
use Rattle.std.proofs.lemmas.Result.{err_from_is_err_and}
use Rattle.kb_fields.specs.Fields.{fields_view}
use Rattle.kb_fsafile.specs.Kinds.{count_value}
use Rattle.kb_fsafile.specs.Checks.{pairs_size_field}
use Rattle.kb_fsafile.specs.declared.error.FsaError.TheVariants as errors
use Rattle.kb_fsafile.proofs.FieldFaults.{no_pair_size}
use Rattle.kb_fsafile.proofs.FirstLemmas.{refused, value_refused}
use Rattle.kb_fsafile.proofs.alphabet.read_pair_size.Goals as goal

pub returns-in_err-size-clause-fault : goal.returns-in_err-size-clause-fault
returns-in_err-size-clause-fault c =
    let p = err_from_is_err_and c.from_residual.result c.from_residual.ensures.1 in
    rw (p.1, p.2) (λ given is lists. refused given pairs_size_field (fields_view c.args.letters.now) is _ c.in_err-size.ensures.fault)

pub returns-then-size-pairs-2-clause-fault : goal.returns-then-size-pairs-2-clause-fault
returns-then-size-pairs-2-clause-fault c = λ given is lists.
    let size = c.in_ok-size.size in
    let other = no_pair_size c.len.result _ c.in_ok-size.size c.len.ensures.count c.if-size-pairs.true c.if-size-pairs-2.true in
    value_refused given pairs_size_field (fields_view c.args.letters.now) is (count_value size) c.in_ok-size.ensures.found (size, refl) errors.AlphabetOther
    (refl, c.args.names.now, size, lists, refl, other)
