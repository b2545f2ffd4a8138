use Rattle.kb_fsafile.proofs.RowLemmas.{symbol_positive, sparse_row_is}
use Rattle.kb_fsafile.proofs.rows.sorted_row.Goals as goal

pub row_of-requires : goal.row_of-requires
row_of-requires c = symbol_positive c.args.size c.args.count c.args.pairs.now c.in_ok-entries.entries c.in_ok-entries.ensures.read

pub returns-clause-read : goal.returns-clause-read
returns-clause-read c =
    sparse_row_is c.args.size c.args.count c.args.pairs.now c.in_ok-entries.entries c.in_ok-row_of.field-0.items c.in_ok-entries.ensures.read
    c.in_ok-row_of.ensures.moves c.in_ok-row_of.ensures.ordered c.in_ok-row_of.ensures.found
