use Rattle.std.proofs.Common.{◌≡◌, ◌++◌, ◌∙◌, suc, [], length, refl, sym, ap, append-nil, arith}
use Rattle.std.proofs.lemmas.Option.{slice_get_read}
use Rattle.std.specs.Prelude.{codes}
use Rattle.kb_record.specs.Tree.{record_value, list_value}
use Rattle.kb_record.specs.View.{value_view, field_view, fields_view, places_view, number_place}
use Rattle.kb_record.specs.Nesting.{value_nesting}
use Rattle.kb_layout.specs.Layout.{indent, line_of, text_of_value}
use Rattle.kb_layout.specs.Printing.{text_of_field, list_of}
use Rattle.kb_layout.proofs.PrintedPieces.{on_err, ok_then, err_then, no_table, pieces_start, pieces_kept, pieces_kept_within, pieces_go, pieces_end}
use Rattle.kb_layout.proofs.PrintedTrees.{record_pieces_at, numbers_no_table}
use Rattle.kb_record.proofs.Views.{view-Record, view-List, view-Numbers}
use Rattle.kb_record.proofs.Nested.{field_nested}
use Rattle.kb_layout.proofs.trees.+levels.Goals as goal

pub print_record-loop-field-init : goal.print_record-loop-field-init
print_record-loop-field-init t c =
    pieces_start (text_of_field (suc c.args.level)) (codes "\n") (codes ",\n") (codes "\n" ++ (indent c.args.level ++ codes ")")) c.args.fields.now c.args.out.now.items (codes "rec(") c.extend_from_slice.new.self.items c.in_ok-extend_from_slice.ensures.items

pub print_record-returns-in_err-extend_from_slice-2-clause-kept : goal.print_record-returns-in_err-extend_from_slice-2-clause-kept
print_record-returns-in_err-extend_from_slice-2-clause-kept t c =
    on_err _ (pieces_kept _ _ _ _ _ _ _ _ _ [] _ c.loop-field.invariant (c.in_err-extend_from_slice-2.ensures.items ∙ sym (append-nil c.loop-field.out.items)))

pub print_record-returns-in_err-print_field-clause-kept : goal.print_record-returns-in_err-print_field-clause-kept
print_record-returns-in_err-print_field-clause-kept t c =
    on_err _ (pieces_kept_within _ _ _ _ _ _ _ _ _ _ _ c.loop-field.invariant c.in_ok-extend_from_slice-2.ensures.items c.in_err-print_field.ensures.kept)

pub print_record-loop-field-preserved : goal.print_record-loop-field-preserved
print_record-loop-field-preserved t c =
    pieces_go _ _ _ _ _ _ _ _ _ c.field-item.result _ _ c.loop-field.invariant c.loop-field-test.true c.field-item.is c.in_ok-extend_from_slice-2.ensures.items
    (c.in_ok-print_field.ensures.printed ∙ ap (λ n. c.extend_from_slice-in-loop-field.new.self.items ++ text_of_field n c.field-item.result) c.in_ok-inside.ensures)

pub print_record-returns-clause-printed : goal.print_record-returns-clause-printed
print_record-returns-clause-printed t c =
    ok_then c.print_close.result c.print_close.ensures.printed (λ e.
    pieces_end _ _ _ _ _ _ _ _ _ _ c.loop-field.invariant c.loop-field-test.false e ∙ ap (λ t. c.args.out.now.items ++ t) (record_pieces_at c.args.level c.args.fields.now))

pub print_record-returns-clause-kept : goal.print_record-returns-clause-kept
print_record-returns-clause-kept t c = err_then c.print_close.result c.print_close.ensures.kept (λ more. pieces_kept _ _ _ _ _ _ _ _ _ more.0 _ c.loop-field.invariant more.1)

pub print_value-returns-in-Record-clause-printed : goal.print_value-returns-in-Record-clause-printed
print_value-returns-in-Record-clause-printed t c =
    let seen : value_view c.args.value.now ≡ record_value (fields_view c.as_slice.result.now) =
    ap value_view c.in-Record.is ∙ view-Record c.in-Record.fields ∙ ap (λ fs. record_value (fields_view fs)) (sym c.as_slice.ensures.value) in
    rw seen c.print_record.ensures.printed

pub print_value-returns-in-List-clause-printed : goal.print_value-returns-in-List-clause-printed
print_value-returns-in-List-clause-printed t c =
    let seen : value_view c.args.value.now ≡ list_value (places_view c.in-List.places) = ap value_view c.in-List.is ∙ view-List c.in-List.places in
    rw seen c.print_list.ensures.printed

pub print_value-returns-in-Numbers-clause-printed : goal.print_value-returns-in-Numbers-clause-printed
print_value-returns-in-Numbers-clause-printed t c =
    let numbers = c.in-Numbers.numbers.items in
    let seen : value_view c.args.value.now ≡ list_of number_place numbers = ap value_view c.in-Numbers.is ∙ view-Numbers c.in-Numbers.numbers in
    let line = ap (text_of_value c.args.level) seen ∙ no_table c.args.level number_place numbers (numbers_no_table numbers) in
    ok_then c.print_items.result c.print_items.ensures.printed (λ e. e ∙ ap (λ ns. c.args.out.now.items ++ line_of (list_of number_place ns)) c.as_slice-in-Numbers.ensures.value
    ∙ ap (λ t. c.args.out.now.items ++ t) (sym line))

-- ---- that what is called is about less

pub print_value-print_record-requires : goal.print_value-print_record-requires
print_value-print_record-requires t c =
    let seen : value_view c.args.value.now ≡ record_value (fields_view c.as_slice.result.now) =
    ap value_view c.in-Record.is ∙ view-Record c.in-Record.fields ∙ ap (λ fs. record_value (fields_view fs)) (sym c.as_slice.ensures.value) in
    let low = ap value_nesting seen in
    omega (arith, low)

pub print_record-print_field-requires : goal.print_record-print_field-requires
print_record-print_field-requires t c =
    let fs = c.args.fields.now in
    let f = c.field-item.result in
    let low = field_nested fs c.loop-field.field-index f (slice_get_read fs (length fs) c.loop-field.field-index f refl c.loop-field-test.true c.field-item.is) in
    omega (arith, low)

pub print_field-print_value-requires : goal.print_field-print_value-requires
print_field-print_value-requires t c =
    let seen : value_view c.value-2.result.now ≡ (field_view c.args.field.now).1 = c.value-2.ensures ∙ c.in_ok-value.ensures in
    let low = ap value_nesting seen in
    omega (arith, low)
