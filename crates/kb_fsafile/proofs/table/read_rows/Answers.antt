use Rattle.std.proofs.Common.{◌≡◌, ℕ, Some, length, refl, sym, subst, ap, ◌∙◌, arith}
use Rattle.std.specs.Prelude.{codes}
use Rattle.std.proofs.lemmas.Result.{err_from_is_err_and}
use Rattle.kb_record.specs.Tree.{Value, list_value}
use Rattle.kb_record.specs.View.{value_view, found_view, places_of}
use Rattle.kb_record.specs.Listed.{listed}
use Rattle.kb_fields.specs.Fields.{fields_view}
use Rattle.kb_fields.proofs.Outcomes.{IfOk_then, IfErr_then}
use Rattle.kb_fsafile.specs.Holds.{HoldsRecord, HoldsStates}
use Rattle.kb_fields.proofs.PlaceLemmas.{count_places}
use Rattle.kb_fsafile.specs.Checks.{table_field, transitions_field}
use Rattle.kb_fsafile.specs.RowsRead.{AreRowsAt, IsFirstOfRows}
use Rattle.kb_fsafile.specs.declared.error.FsaError.TheVariants as errors
use Rattle.kb_fsafile.proofs.FirstLemmas.{refused, kind_refused, value_refused}
use Rattle.kb_fsafile.proofs.NoFault.{table_passed, default_passed, table_format_passed, transitions_passed}
use Rattle.kb_fsafile.proofs.Refused.{rows_refused}
use Rattle.kb_fsafile.proofs.FieldFaults.{value_seen, record_seen}
use Rattle.kb_fsafile.proofs.TableLemmas.{has_rows}
use Rattle.kb_fsafile.proofs.table.read_rows.Goals.{After-as_slice-table}
use Rattle.kb_fsafile.proofs.table.read_rows.Goals as goal

is_record : (c : After-as_slice-table) → HoldsRecord (fields_view c.args.fields.now) (codes "table") (fields_view c.as_slice-table.result.now)
is_record c =
    record_seen (fields_view c.args.fields.now) (codes "table") (found_view c.in_ok-value.value) (value_view c.value.result.now) c.in_ok-record_in.field-0.now.items
    c.as_slice-table.result.now c.in_ok-value.ensures.found c.value.ensures c.in_ok-record_in.ensures.found c.as_slice-table.ensures.value

pub returns-in_err-value-clause-fault : goal.returns-in_err-value-clause-fault
returns-in_err-value-clause-fault c =
    let p = err_from_is_err_and c.from_residual.result c.from_residual.ensures.1 in
    rw (p.1, p.2) (refused (fields_view c.args.fields.now) table_field (fields_view c.args.fields.now) refl _ c.in_err-value.ensures.fault)

pub returns-in_err-record_in-clause-fault : goal.returns-in_err-record_in-clause-fault
returns-in_err-record_in-clause-fault c =
    let p = err_from_is_err_and c.from_residual-in_err-record_in.result c.from_residual-in_err-record_in.ensures.1 in
    let given = fields_view c.args.fields.now in
    let is = value_seen given (codes "table") _ (value_view c.value.result.now) c.in_ok-value.ensures.found c.value.ensures in
    rw (p.1, p.2) (kind_refused given table_field given refl (value_view c.value.result.now) _ is c.in_err-record_in.ensures.fault)

pub returns-in_err-check_default-clause-fault : goal.returns-in_err-check_default-clause-fault
returns-in_err-check_default-clause-fault c =
    let p = err_from_is_err_and c.from_residual-in_err-check_default.result c.from_residual-in_err-check_default.ensures.1 in
    rw (p.1, p.2) (λ free.
    let is = is_record (goal.at.returns-in_err-check_default-clause-fault c).After-as_slice-table in
    c.in_err-check_default.ensures.fault (fields_view c.args.fields.now) is (table_passed (fields_view c.args.fields.now) (fields_view c.as_slice-table.result.now) is free))

pub returns-in_err-format-clause-fault : goal.returns-in_err-format-clause-fault
returns-in_err-format-clause-fault c =
    let p = err_from_is_err_and c.from_residual-in_err-format.result c.from_residual-in_err-format.ensures.1 in
    rw (p.1, p.2) (λ free.
    let given = fields_view c.args.fields.now in
    let table = fields_view c.as_slice-table.result.now in
    let is = is_record (goal.at.returns-in_err-format-clause-fault c).After-as_slice-table in
    c.in_err-format.ensures.fault given is (default_passed given table is c.in_ok-check_default.ensures.ok (table_passed given table is free)))

pub returns-in_err-list-clause-fault : goal.returns-in_err-list-clause-fault
returns-in_err-list-clause-fault c =
    let p = err_from_is_err_and c.from_residual-in_err-list.result c.from_residual-in_err-list.ensures.1 in
    rw (p.1, p.2) (λ free.
    let given = fields_view c.args.fields.now in
    let table = fields_view c.as_slice-table.result.now in
    let is = is_record (goal.at.returns-in_err-list-clause-fault c).After-as_slice-table in
    refused given transitions_field table is _ c.in_err-list.ensures.fault
    (table_format_passed given table is c.in_ok-format.format c.in_ok-format.ensures.named (default_passed given table is c.in_ok-check_default.ensures.ok (table_passed given table is free))))

pub returns-then-length-count-clause-fault : goal.returns-then-length-count-clause-fault
returns-then-length-count-clause-fault c = λ free.
    let given = fields_view c.args.fields.now in
    let table = fields_view c.as_slice-table.result.now in
    let places = places_of (listed (found_view c.in_ok-list.list)) in
    let is = is_record (goal.at.returns-then-length-count-clause-fault c).After-as_slice-table in
    value_refused given transitions_field table is (list_value places) (c.in_ok-list.ensures.found ∙ ap Some c.in_ok-list.ensures.listed) (places, refl) errors.StatesWrong (
      refl,
      c.args.count,
      places,
      c.requires.counted,
      refl,
      λ same. c.if-length-count.true (sym c.in_ok-list.ensures.counted ∙ (sym (count_places (listed (found_view c.in_ok-list.list))) ∙ same)),
    )
    (table_format_passed given table is c.in_ok-format.format c.in_ok-format.ensures.named (default_passed given table is c.in_ok-check_default.ensures.ok (table_passed given table is free)))

pub returns-in-Ok-clause-read : goal.returns-in-Ok-clause-read
returns-in-Ok-clause-read c =
    let at = (goal.at.returns-in-Ok-clause-read c).After-as_slice-table in
    let counted = c.in_ok-list.ensures.counted in
    let listed_at = c.in_ok-list.ensures.found ∙ ap Some c.in_ok-list.ensures.listed in
    IfOk_then c.rows_listed.result c.rows_listed.ensures.read (λ rows are.
    let P : Value → Type 0 = λ list. AreRowsAt c.args.size c.in-Ok.count c.in_ok-format.format (places_of (listed list)) rows in
    has_rows (fields_view c.args.fields.now) (fields_view c.as_slice-table.result.now) c.args.size c.args.count c.in-Ok.count c.in_ok-format.format
    (listed (found_view c.in_ok-list.list)) rows (is_record at) c.in_ok-check_default.ensures.ok c.in_ok-format.ensures.named
    listed_at (omega (arith, counted)) c.in-Ok.ensures.0 c.in-Ok.ensures.1 (subst P c.value-in-Ok.ensures are))

pub returns-in-Ok-clause-fault : goal.returns-in-Ok-clause-fault
returns-in-Ok-clause-fault c =
    let given = fields_view c.args.fields.now in
    let table = fields_view c.as_slice-table.result.now in
    let ps = listed (found_view c.in_ok-list.list) in
    let format = c.in_ok-format.format in
    let counted = c.in_ok-list.ensures.counted in
    let whole : length (listed (found_view c.in_ok-list.list)) ≡ c.args.count = omega (arith, counted) in
    let is = is_record (goal.at.returns-in-Ok-clause-fault c).After-as_slice-table in
    let Q : ℕ → Type 0 = λ n. HoldsStates (fields_view c.args.fields.now) n in
    let found = c.in_ok-list.ensures.found ∙ ap Some c.in_ok-list.ensures.listed in
    IfErr_then c.rows_listed.result c.rows_listed.ensures.fault (λ error fault free.
    let P : Value → Type 0 = λ list. IsFirstOfRows c.in_ok-format.format c.args.size c.in-Ok.count (places_of (listed list)) error in
    rows_refused given format c.args.size c.in-Ok.count (places_of ps)
    (record {
      counted = subst Q (sym c.in-Ok.ensures.1) c.requires.counted;
      sized = c.requires.sized;
      listed = record { table = fields_view c.as_slice-table.result.now; is_record = is; named = c.in_ok-format.ensures.named; listed = found };
    })
    (transitions_passed given table is c.args.count (places_of ps) c.requires.counted found (count_places ps ∙ whole)
    (table_format_passed given table is format c.in_ok-format.ensures.named (default_passed given table is c.in_ok-check_default.ensures.ok (table_passed given table is free))))
    error (subst P c.value-in-Ok.ensures fault))
