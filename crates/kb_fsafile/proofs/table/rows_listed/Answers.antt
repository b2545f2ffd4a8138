use Rattle.std.proofs.Common.{◌+◌, ◌++◌, ◌∷◌, [], List, take, sym, ap, ◌∙◌, subst}
use Rattle.std.proofs.lemmas.Result.{err_from_is_err_and}
use Rattle.kb_record.specs.View.{value_view, places_of}
use Rattle.kb_record.specs.Listed.{listed}
use Rattle.kb_fsa.specs.Table.{Moves, IsRow}
use Rattle.kb_fsafile.specs.RowsRead.{AreRowsAt}
use Rattle.kb_fsafile.proofs.RowFaults.{first_row_of}
use Rattle.kb_fsafile.proofs.TableLemmas.{rows_more}
use Rattle.kb_fsafile.proofs.table.rows_listed.Goals as goal

pub loop-place-preserved : goal.loop-place-preserved
loop-place-preserved c =
    let places = listed (value_view c.args.list.now) in
    let P : List Moves → Type 0 = λ rows. AreRowsAt c.args.size c.args.count c.args.format (places_of (take (c.loop-place.place + 1) (listed (value_view c.args.list.now)))) rows in
    subst P (sym {A = List Moves} (c.in_ok-push.ensures.pushed ∙ ap (λ row. c.loop-place.rows ++ row ∷ []) c.as_slice.ensures.value))
    (rows_more c.args.size c.args.count c.args.format places c.loop-place.place _ c.loop-place.rows c.in_ok-row.row.items c.place.ensures
    c.loop-place.invariant c.in_ok-row.ensures.read)

pub push-requires : goal.push-requires
push-requires c = subst IsRow (sym c.as_slice.ensures.value) c.in_ok-row.ensures.read.holds.is_row

pub returns-in_err-row-clause-fault : goal.returns-in_err-row-clause-fault
returns-in_err-row-clause-fault c =
    let places = listed (value_view c.args.list.now) in
    let p = err_from_is_err_and c.from_residual-in_err-row.result c.from_residual-in_err-row.ensures.1 in
    rw (p.1, p.2) (first_row_of c.args.size c.args.count c.args.format places c.loop-place.place _ c.loop-place.rows _ c.place.ensures c.loop-place.invariant
    c.in_err-row.ensures.fault)
