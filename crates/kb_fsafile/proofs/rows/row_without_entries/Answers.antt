use Rattle.std.proofs.Common.{[], Some, ap, ◌∙◌}
use Rattle.kb_record.specs.View.{row_place}
use Rattle.kb_fields.proofs.Outcomes.{IfOk_then}
use Rattle.kb_fsafile.specs.declared.format.Format.TheVariants.{Sparse}
use Rattle.kb_fsafile.proofs.KindLemmas.{numbers_of_entries, empty_list, no_empty_list, place_of_entries}
use Rattle.kb_fsafile.proofs.RowFaults.{other_row_kind}
use Rattle.kb_fsafile.proofs.TableLemmas.{sparse_row_at}
use Rattle.kb_fsafile.proofs.rows.row_without_entries.Goals as goal

pub returns-then-not-is_empty-clause-fault : goal.returns-then-not-is_empty-clause-fault
returns-then-not-is_empty-clause-fault c =
    other_row_kind Sparse c.args.size c.args.count _ _ c.no_row.ensures (λ value is kind.
    no_empty_list c.args.numbers.now c.if-not-is_empty.ensures (numbers_of_entries c.args.numbers.now kind.0 (is ∙ ap Some kind.1)))

pub returns-clause-read : goal.returns-clause-read
returns-clause-read c =
    let seen = ap row_place (empty_list c.args.numbers.now c.if-not-is_empty.ensures) ∙ place_of_entries [] in
    IfOk_then c.sparse_row.result c.sparse_row.ensures.read (λ row is. sparse_row_at c.args.size c.args.count [] _ row.items seen is)
