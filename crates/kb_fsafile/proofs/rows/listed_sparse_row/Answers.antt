use Rattle.std.proofs.Common.{ℤ, List, Some, sym, ap, ◌∙◌}
use Rattle.std.proofs.lemmas.Option.{same_Some}
use Rattle.kb_record.specs.Tree.{list_value}
use Rattle.kb_fields.proofs.Outcomes.{IfOk_then}
use Rattle.kb_fsafile.specs.Kinds.{list_of_entries}
use Rattle.kb_fsafile.specs.declared.format.Format.TheVariants.{Sparse}
use Rattle.kb_fsafile.proofs.RowFaults.{other_row_kind}
use Rattle.kb_fsafile.proofs.TableLemmas.{sparse_row_at}
use Rattle.kb_fsafile.proofs.rows.listed_sparse_row.Goals as goal

pub returns-in_default-clause-fault : goal.returns-in_default-clause-fault
returns-in_default-clause-fault c =
    let other = rw c.in_default.is at c.in_ok-entries.ensures.other in
    other_row_kind Sparse c.args.size c.args.count _ _ c.no_row.ensures (λ value is kind. other kind.0 (same_Some _ _ is ∙ kind.1))

pub returns-clause-read : goal.returns-clause-read
returns-clause-read c =
    let listed = rw c.in-Some.is at c.in_ok-entries.ensures.listed in
    let stands = ap Some (listed ∙ ap (λ (xs : List (ℤ × ℤ)). list_value (list_of_entries xs)) (sym c.as_slice.ensures.value)) in
    IfOk_then c.sparse_row.result c.sparse_row.ensures.read (λ row is. sparse_row_at c.args.size c.args.count c.as_slice.result.now _ row.items stands is)
