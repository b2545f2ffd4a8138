use Rattle.std.proofs.Common.{◌++◌, ◌∙◌, [], sym, ap, append-nil, arith}
use Rattle.std.proofs.lemmas.List.{map-id}
use Rattle.kb_record.specs.Tree.{list_value}
use Rattle.kb_record.specs.View.{places_of, written_place, written_places}
use Rattle.kb_layout.specs.Layout as layout
use Rattle.kb_layout.specs.Layout.{text_of_value}
use Rattle.kb_layout.specs.Printing.{row_at}
use Rattle.kb_layout.proofs.PrintedPieces.{on_err, ok_then, err_then, table_start, table_go, table_end, pieces_kept, pieces_kept_within}
use Rattle.kb_layout.proofs.trees.print_list.Goals as goal

pub loop-place-init : goal.loop-place-init
loop-place-init c =
    table_start c.args.level (λ p. p) (written_places c.args.places.now) c.args.out.now.items c.push.new.self.items c.in_ok-push.ensures.items

pub returns-in_err-extend_from_slice-clause-kept : goal.returns-in_err-extend_from_slice-clause-kept
returns-in_err-extend_from_slice-clause-kept c =
    on_err _ (pieces_kept _ _ _ _ _ _ _ _ _ [] _ c.loop-place.invariant (c.in_err-extend_from_slice.ensures.items ∙ sym (append-nil c.loop-place.out.items)))

pub returns-in_err-print_row-clause-kept : goal.returns-in_err-print_row-clause-kept
returns-in_err-print_row-clause-kept c =
    on_err _ (pieces_kept_within _ _ _ _ _ _ _ _ _ _ _ c.loop-place.invariant c.in_ok-extend_from_slice.ensures.items c.in_err-print_row.ensures.kept)

pub loop-place-preserved : goal.loop-place-preserved
loop-place-preserved c =
    let place = written_place c.get.result in
    table_go c.args.level (λ p. p) (written_places c.args.places.now) _ _ _ c.loop-place.place place _ _ c.loop-place.invariant c.get.ensures c.in_ok-extend_from_slice.ensures.items
    (c.in_ok-print_row.ensures.printed ∙ ap (λ n. c.extend_from_slice.new.self.items ++ row_at n place) c.in_ok-inside.ensures)

pub returns-clause-printed : goal.returns-clause-printed
returns-clause-printed c =
    let places = written_places c.args.places.now in
    let table = ap (λ ps. layout.is_table (places_of ps)) (map-id places) ∙ sym c.in_ok-table.ensures ∙ c.if-not-table.false in
    ok_then c.print_close.result c.print_close.ensures.printed (λ e.
    table_end c.args.level (λ p. p) places _ _ _ _ _ table c.loop-place.invariant (omega (arith, c.len-place-end.ensures)) e
    ∙ ap (λ ps. c.args.out.now.items ++ text_of_value c.args.level (list_value (places_of ps))) (map-id places))

pub returns-clause-kept : goal.returns-clause-kept
returns-clause-kept c = err_then c.print_close.result c.print_close.ensures.kept (λ more. pieces_kept _ _ _ _ _ _ _ _ _ more.0 _ c.loop-place.invariant more.1)
