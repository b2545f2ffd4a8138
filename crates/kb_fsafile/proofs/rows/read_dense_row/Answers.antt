use Rattle.std.proofs.Common.{Option, Some, IfOk, IfErr, sym, ap, ◌∙◌, subst}
use Rattle.kb_record.specs.Tree.{Value}
use Rattle.kb_record.specs.Listed.{place_view}
use Rattle.kb_fsafile.specs.Kinds.{list_of_numbers}
use Rattle.kb_fsafile.specs.declared.format.Format.TheVariants.{Dense}
use Rattle.kb_fsafile.specs.RowsRead.{IsRowAt, IsFirstOfRow}
use Rattle.kb_fsafile.proofs.KindLemmas.{place_of_numbers, no_list_at}
use Rattle.kb_fsafile.proofs.RowFaults.{other_row_kind}
use Rattle.kb_fsafile.proofs.rows.read_dense_row.Goals as goal

pub returns-in-Numbers-clause-read : goal.returns-in-Numbers-clause-read
returns-in-Numbers-clause-read c =
    let seen = ap place_view c.in-Numbers.is ∙ place_of_numbers c.in-Numbers.numbers.now in
    let P : Option Value → Type 0 = λ p. IfOk c.whole_row.result (λ row. IsRowAt c.args.size c.args.count Dense p row.items) in
    subst P (sym seen) c.whole_row.ensures.read

pub returns-in-Numbers-clause-fault : goal.returns-in-Numbers-clause-fault
returns-in-Numbers-clause-fault c =
    let seen = ap place_view c.in-Numbers.is ∙ place_of_numbers c.in-Numbers.numbers.now in
    let P : Option Value → Type 0 = λ p. IfErr c.whole_row.result (IsFirstOfRow Dense c.args.size c.args.count p) in
    subst P (sym seen) c.whole_row.ensures.fault

pub returns-in_default-clause-fault : goal.returns-in_default-clause-fault
returns-in_default-clause-fault c =
    other_row_kind Dense c.args.size c.args.count _ _ c.no_row.ensures (λ value is kind.
    no_list_at c.args.place c.in_default.not-Text c.in_default.not-Numbers c.in_default.not-Entries (list_of_numbers kind.0) (is ∙ ap Some kind.1))
