use Rattle.std.proofs.Common.{refl, arith}
use Rattle.kb_fields.proofs.Outcomes.{IfOk_then}
use Rattle.kb_fsafile.specs.declared.error.FsaError.TheVariants as errors
use Rattle.kb_fsafile.proofs.RowFaults.{dense_length}
use Rattle.kb_fsafile.proofs.TableLemmas.{dense_row_at}
use Rattle.kb_fsafile.proofs.rows.whole_row.Goals as goal

pub returns-then-numbers-size-clause-fault : goal.returns-then-numbers-size-clause-fault
returns-then-numbers-size-clause-fault c =
    dense_length c.args.size c.args.count c.args.numbers.now _ refl errors.StatesWrong refl (λ same. c.if-numbers-size.true (omega (arith, same)))

pub returns-clause-read : goal.returns-clause-read
returns-clause-read c =
    IfOk_then c.dense_row.result c.dense_row.ensures.read (λ row are.
    dense_row_at c.args.size c.args.count c.args.numbers.now _ row.items refl (omega (arith, c.if-numbers-size.false)) are)
