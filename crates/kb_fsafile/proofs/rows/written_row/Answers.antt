use Rattle.std.proofs.Common.{◌≡◌, Option, Some, None, IfOk, IfErr, sym, ap, ◌∙◌, subst, option_map}
use Rattle.kb_record.specs.Tree.{Value}
use Rattle.kb_record.specs.View.{value_view, written_place}
use Rattle.kb_fsafile.specs.declared.format.Format.TheVariants.{Dense}
use Rattle.kb_fsafile.specs.RowsRead.{IsRowAt, IsFirstOfRow}
use Rattle.kb_fsafile.proofs.RowFaults.{other_row_kind}
use Rattle.kb_fsafile.proofs.rows.written_row.Goals as goal

pub returns-in-Some-clause-read : goal.returns-in-Some-clause-read
returns-in-Some-clause-read c =
    let seen : written_place c.args.text ≡ Some (value_view c.in-Some.value) = sym c.in_ok-value.ensures ∙ ap (option_map value_view) c.in-Some.is in
    let P : Option Value → Type 0 = λ p. IfOk c.listed_row.result (λ row. IsRowAt c.args.size c.args.count Dense p row.items) in
    subst P (sym seen) c.listed_row.ensures.read

pub returns-in-Some-clause-fault : goal.returns-in-Some-clause-fault
returns-in-Some-clause-fault c =
    let seen : written_place c.args.text ≡ Some (value_view c.in-Some.value) = sym c.in_ok-value.ensures ∙ ap (option_map value_view) c.in-Some.is in
    let P : Option Value → Type 0 = λ p. IfErr c.listed_row.result (IsFirstOfRow Dense c.args.size c.args.count p) in
    subst P (sym seen) c.listed_row.ensures.fault

pub returns-in-None-clause-fault : goal.returns-in-None-clause-fault
returns-in-None-clause-fault c =
    let empty : written_place c.args.text ≡ None = sym c.in_ok-value.ensures ∙ ap (option_map value_view) c.in-None.is in
    other_row_kind Dense c.args.size c.args.count _ _ c.no_row.ensures (λ value is kind. let both = sym empty ∙ is in cc)
