use Rattle.std.proofs.Common.{refl}
use Rattle.std.proofs.lemmas.Result.{err_from_is_err_and}
use Rattle.kb_fsafile.proofs.OneFault.{table_or_memory, cleaning_or_memory}
use Rattle.kb_fsafile.proofs.reader.read.Goals as goal

pub returns-in_err-table-clause-fault : goal.returns-in_err-table-clause-fault
returns-in_err-table-clause-fault c =
    let p = err_from_is_err_and c.from_residual-in_err-table.result c.from_residual-in_err-table.ensures.1 in
    rw (p.1, p.2) (table_or_memory c.args.bytes.now c.in_ok-letters.letters.names c.in_ok-letters.letters.alphabet c.in_ok-letters.read _
    c.in_ok-letters.ensures.read
    (cleaning_or_memory c.in_ok-letters.letters.alphabet c.in_ok-letters.read c.in_ok-letters.read _ refl c.in_err-table.ensures.fault))
