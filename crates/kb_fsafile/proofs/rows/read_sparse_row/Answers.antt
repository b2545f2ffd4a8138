use Rattle.std.proofs.Common.{Option, Some, IfErr, sym, ap, ◌∙◌, subst}
use Rattle.kb_record.specs.Tree.{Value}
use Rattle.kb_record.specs.Listed.{place_view}
use Rattle.kb_fields.proofs.Outcomes.{IfOk_then}
use Rattle.kb_fsafile.specs.Kinds.{list_of_entries}
use Rattle.kb_fsafile.specs.declared.format.Format.TheVariants.{Sparse}
use Rattle.kb_fsafile.specs.RowsRead.{IsFirstOfRow}
use Rattle.kb_fsafile.proofs.KindLemmas.{place_of_entries, no_list_at}
use Rattle.kb_fsafile.proofs.RowFaults.{other_row_kind}
use Rattle.kb_fsafile.proofs.TableLemmas.{sparse_row_at}
use Rattle.kb_fsafile.proofs.rows.read_sparse_row.Goals as goal

pub returns-in-Entries-clause-read : goal.returns-in-Entries-clause-read
returns-in-Entries-clause-read c =
    let seen = ap place_view c.in-Entries.is ∙ place_of_entries c.in-Entries.entries.now in
    IfOk_then c.sparse_row.result c.sparse_row.ensures.read (λ row is. sparse_row_at c.args.size c.args.count c.in-Entries.entries.now _ row.items seen is)

pub returns-in-Entries-clause-fault : goal.returns-in-Entries-clause-fault
returns-in-Entries-clause-fault c =
    let seen = ap place_view c.in-Entries.is ∙ place_of_entries c.in-Entries.entries.now in
    let P : Option Value → Type 0 = λ p. IfErr c.sparse_row.result (IsFirstOfRow Sparse c.args.size c.args.count p) in
    subst P (sym seen) c.sparse_row.ensures.fault

pub returns-in_default-clause-fault : goal.returns-in_default-clause-fault
returns-in_default-clause-fault c =
    other_row_kind Sparse c.args.size c.args.count _ _ c.no_row.ensures (λ value is kind.
    no_list_at c.args.place c.in_default.not-Text c.in_default.not-Numbers c.in_default.not-Entries (list_of_entries kind.0) (is ∙ ap Some kind.1))
