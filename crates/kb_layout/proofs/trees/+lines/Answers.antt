use Rattle.std.proofs.Common.{◌≡◌, ◌++◌, ◌∙◌, [], Some, length, option_map, refl, sym, ap, append-nil, arith}
use Rattle.std.proofs.lemmas.List.{map-id}
use Rattle.std.proofs.lemmas.Option.{slice_get_read}
use Rattle.std.specs.Prelude.{codes}
use Rattle.kb_record.specs.Tree.{record_value, list_value}
use Rattle.kb_record.specs.View.{value_view, field_view, fields_view, places_of, places_view, written_place, written_places}
use Rattle.kb_record.specs.Nesting.{value_nesting}
use Rattle.kb_layout.specs.Layout.{line_of}
use Rattle.kb_layout.specs.Printing.{line_of_field}
use Rattle.kb_layout.proofs.PrintedPieces.{on_err, ok_then, list_start, list_end, pieces_start, pieces_kept, pieces_kept_within, pieces_go, pieces_go_at, pieces_end}
use Rattle.kb_layout.proofs.PrintedTrees.{record_pieces, place_some, place_none}
use Rattle.kb_record.proofs.Views.{view-Record, view-List}
use Rattle.kb_record.proofs.ValueParts.{place_nesting}
use Rattle.kb_record.proofs.Nested.{field_nested, place_nested}
use Rattle.kb_layout.proofs.trees.+lines.Goals as goal

pub print_list_on_line-loop-place-init : goal.print_list_on_line-loop-place-init
print_list_on_line-loop-place-init t c =
    list_start (λ p. p) (written_places c.args.places.now) c.args.out.now.items c.push.new.self.items c.in_ok-push.ensures.items

pub print_list_on_line-returns-in_err-extend_from_slice-clause-kept : goal.print_list_on_line-returns-in_err-extend_from_slice-clause-kept
print_list_on_line-returns-in_err-extend_from_slice-clause-kept t c =
    on_err _ (pieces_kept _ _ _ _ _ _ _ _ _ [] _ c.loop-place.invariant (c.in_err-extend_from_slice.ensures.items ∙ sym (append-nil c.loop-place.out.items)))

pub print_list_on_line-returns-in_err-push-2-clause-kept : goal.print_list_on_line-returns-in_err-push-2-clause-kept
print_list_on_line-returns-in_err-push-2-clause-kept t c =
    on_err _ (pieces_kept _ _ _ _ _ _ _ _ _ [] _ c.loop-place.invariant (c.in_err-push-2.ensures.items ∙ sym (append-nil c.loop-place.out.items)))

pub print_list_on_line-returns-clause-printed : goal.print_list_on_line-returns-clause-printed
print_list_on_line-returns-clause-printed t c =
    let places = written_places c.args.places.now in
    list_end (λ p. p) places _ _ _ _ _ c.loop-place.invariant (omega (arith, c.len-place-end.ensures)) c.in_ok-push-2.ensures.items
    ∙ ap (λ ps. c.args.out.now.items ++ line_of (list_value (places_of ps))) (map-id places)

pub print_record_on_line-loop-field-init : goal.print_record_on_line-loop-field-init
print_record_on_line-loop-field-init t c =
    pieces_start line_of_field [] (codes ",") (codes ")") c.args.fields.now c.args.out.now.items (codes "rec(") c.extend_from_slice.new.self.items c.in_ok-extend_from_slice.ensures.items

pub print_record_on_line-returns-in_err-extend_from_slice-2-clause-kept : goal.print_record_on_line-returns-in_err-extend_from_slice-2-clause-kept
print_record_on_line-returns-in_err-extend_from_slice-2-clause-kept t c =
    on_err _ (pieces_kept _ _ _ _ _ _ _ _ _ [] _ c.loop-field.invariant (c.in_err-extend_from_slice-2.ensures.items ∙ sym (append-nil c.loop-field.out.items)))

pub print_record_on_line-returns-in_err-print_field_on_line-clause-kept : goal.print_record_on_line-returns-in_err-print_field_on_line-clause-kept
print_record_on_line-returns-in_err-print_field_on_line-clause-kept t c =
    on_err _ (pieces_kept_within _ _ _ _ _ _ _ _ _ _ _ c.loop-field.invariant c.in_ok-extend_from_slice-2.ensures.items c.in_err-print_field_on_line.ensures.kept)

pub print_record_on_line-loop-field-preserved : goal.print_record_on_line-loop-field-preserved
print_record_on_line-loop-field-preserved t c =
    pieces_go _ _ _ _ _ _ _ _ _ c.field-item.result _ _ c.loop-field.invariant c.loop-field-test.true c.field-item.is c.in_ok-extend_from_slice-2.ensures.items c.in_ok-print_field_on_line.ensures.printed

pub print_record_on_line-returns-clause-printed : goal.print_record_on_line-returns-clause-printed
print_record_on_line-returns-clause-printed t c =
    pieces_end _ _ _ _ _ _ _ _ _ _ c.loop-field.invariant c.loop-field-test.false c.in_ok-push.ensures.items ∙ ap (λ t. c.args.out.now.items ++ t) (record_pieces c.args.fields.now)

pub print_on_line-returns-in-Record-clause-printed : goal.print_on_line-returns-in-Record-clause-printed
print_on_line-returns-in-Record-clause-printed t c =
    let seen : value_view c.args.value.now ≡ record_value (fields_view c.as_slice.result.now) =
    ap value_view c.in-Record.is ∙ view-Record c.in-Record.fields ∙ ap (λ fs. record_value (fields_view fs)) (sym c.as_slice.ensures.value) in
    rw seen c.print_record_on_line.ensures.printed

pub print_list_on_line-returns-in_err-print_place-clause-kept : goal.print_list_on_line-returns-in_err-print_place-clause-kept
print_list_on_line-returns-in_err-print_place-clause-kept t c =
    on_err _ (pieces_kept_within _ _ _ _ _ _ _ _ _ _ _ c.loop-place.invariant c.in_ok-extend_from_slice.ensures.items c.in_err-print_place.ensures.kept)

pub print_list_on_line-loop-place-preserved : goal.print_list_on_line-loop-place-preserved
print_list_on_line-loop-place-preserved t c =
    pieces_go_at _ _ _ _ _ _ _ _ c.loop-place.place (written_place c.get.result) _ _ c.loop-place.invariant c.get.ensures c.in_ok-extend_from_slice.ensures.items c.in_ok-print_place.ensures.printed

pub print_place-returns-in-Some-clause-printed : goal.print_place-returns-in-Some-clause-printed
print_place-returns-in-Some-clause-printed t c =
    ok_then c.print_on_line.result c.print_on_line.ensures.printed (place_some (written_place c.args.place) (value_view c.in-Some.value) c.args.out.now.items _ (ap (option_map value_view) (sym c.in-Some.is) ∙ c.in_ok-value.ensures))

pub print_place-returns-in-None-clause-printed : goal.print_place-returns-in-None-clause-printed
print_place-returns-in-None-clause-printed t c = place_none (written_place c.args.place) c.args.out.now.items (ap (option_map value_view) (sym c.in-None.is) ∙ c.in_ok-value.ensures)

-- ---- that what is called is about less

pub print_on_line-print_record_on_line-requires : goal.print_on_line-print_record_on_line-requires
print_on_line-print_record_on_line-requires t c =
    let seen : value_view c.args.value.now ≡ record_value (fields_view c.as_slice.result.now) =
    ap value_view c.in-Record.is ∙ view-Record c.in-Record.fields ∙ ap (λ fs. record_value (fields_view fs)) (sym c.as_slice.ensures.value) in
    let low = ap value_nesting seen in
    omega (arith, low)

pub print_on_line-print_list_on_line-requires : goal.print_on_line-print_list_on_line-requires
print_on_line-print_list_on_line-requires t c =
    let seen : value_view c.args.value.now ≡ list_value (places_view c.in-List.places) = ap value_view c.in-List.is ∙ view-List c.in-List.places in
    let low = ap value_nesting seen in
    omega (arith, low)

pub print_field_on_line-print_on_line-requires : goal.print_field_on_line-print_on_line-requires
print_field_on_line-print_on_line-requires t c =
    let seen : value_view c.value-2.result.now ≡ (field_view c.args.field.now).1 = c.value-2.ensures ∙ c.in_ok-value.ensures in
    let low = ap value_nesting seen in
    omega (arith, low)

pub print_record_on_line-print_field_on_line-requires : goal.print_record_on_line-print_field_on_line-requires
print_record_on_line-print_field_on_line-requires t c =
    let fs = c.args.fields.now in
    let f = c.field-item.result in
    let low = field_nested fs c.loop-field.field-index f (slice_get_read fs (length fs) c.loop-field.field-index f refl c.loop-field-test.true c.field-item.is) in
    omega (arith, low)

pub print_list_on_line-print_place-requires : goal.print_list_on_line-print_place-requires
print_list_on_line-print_place-requires t c =
    let low = place_nested (written_places c.args.places.now) c.loop-place.place (written_place c.get.result) c.get.ensures in
    omega (arith, low)

pub print_place-print_on_line-requires : goal.print_place-print_on_line-requires
print_place-print_on_line-requires t c =
    let seen : Some (value_view c.in-Some.value) ≡ written_place c.args.place = ap (option_map value_view) (sym c.in-Some.is) ∙ c.in_ok-value.ensures in
    let low = ap place_nesting seen in
    omega (arith, low)
