use Rattle.std.proofs.lemmas.Result.{err_from_is_err_and}
use Rattle.kb_fsafile.specs.RowsRead.{most_symbols}
use Rattle.kb_fsafile.proofs.FirstLemmas.{at_start}
use Rattle.kb_fsafile.proofs.NoFault.{once_passed, is_fsa_passed, letters_passed}
use Rattle.kb_fields.specs.Fields.{fields_view}
use Rattle.kb_fsafile.proofs.TextLemmas.{size_of_letters, size_at_most, few_letters, more_symbols, table_fields}
use Rattle.kb_fsafile.proofs.reader.lettered_table.Goals as goal

pub read_table-requires : goal.read_table-requires
read_table-requires c =
    size_of_letters (fields_view c.args.fields.now) c.in_ok-letters.letters.names c.in_ok-letters.letters.alphabet c.in_ok-letters.letters.size c.in_ok-letters.ensures.read

pub returns-in_err-check_is_fsa-clause-fault : goal.returns-in_err-check_is_fsa-clause-fault
returns-in_err-check_is_fsa-clause-fault c =
    let p = err_from_is_err_and c.from_residual-in_err-check_is_fsa.result c.from_residual-in_err-check_is_fsa.ensures.1 in
    rw (p.1, p.2) (let given = fields_view c.args.fields.now in c.in_err-check_is_fsa.ensures.fault (once_passed given c.in_ok-check_once.ensures.once (at_start given)))

pub returns-in_err-letters-clause-fault : goal.returns-in_err-letters-clause-fault
returns-in_err-letters-clause-fault c =
    let p = err_from_is_err_and c.from_residual-in_err-letters.result c.from_residual-in_err-letters.ensures.1 in
    rw (p.1, p.2) (let given = fields_view c.args.fields.now in
    c.in_err-letters.ensures.fault (is_fsa_passed given c.in_ok-check_is_fsa.ensures.ok (once_passed given c.in_ok-check_once.ensures.once (at_start given))))

pub returns-in_err-table-clause-fault : goal.returns-in_err-table-clause-fault
returns-in_err-table-clause-fault c =
    let p = err_from_is_err_and c.from_residual-in_err-table.result c.from_residual-in_err-table.ensures.1 in
    rw (p.1, p.2) (let given = fields_view c.args.fields.now in
    let letters = c.in_ok-letters.letters in
    c.in_err-table.ensures.fault
    (letters_passed given letters.names letters.alphabet letters.size c.in_ok-letters.ensures.read (is_fsa_passed given c.in_ok-check_is_fsa.ensures.ok (once_passed given c.in_ok-check_once.ensures.once (at_start given)))))

pub returns-clause-read : goal.returns-clause-read
returns-clause-read c =
    let given = fields_view c.args.fields.now in
    let letters = c.in_ok-letters.letters in
    let has = c.in_ok-letters.ensures.read in
    let table = c.in_ok-table.ensures.read in
    record {
      holds = table_fields given letters.names letters.alphabet letters.size c.in_ok-table.table c.in_ok-check_once.ensures.once c.in_ok-check_is_fsa.ensures.ok has table;
      few = few_letters given letters.names letters.alphabet letters.size has;
      symbols = more_symbols c.in_ok-table.table letters.size (most_symbols letters.alphabet) (size_at_most given letters.names letters.alphabet letters.size has) table.symbols;
      is_table = table.is_table;
    }
