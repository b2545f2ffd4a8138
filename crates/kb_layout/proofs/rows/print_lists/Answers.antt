use Rattle.std.proofs.Common.{◌++◌, ◌∙◌, [], ap, sym, append-nil, arith}
use Rattle.kb_layout.specs.Printing.{list_place, row_of_place}
use Rattle.kb_layout.proofs.PrintedPieces.{on_err, ok_then, err_then, table_start, table_go, table_end, kept_behind, both_behind, pieces_kept, pieces_kept_within}
use Rattle.kb_layout.proofs.PrintedTrees.{lists_are_table, list_at, list_there}
use Rattle.kb_layout.proofs.rows.print_lists.Goals as goal

pub loop-place-init : goal.loop-place-init
loop-place-init g c = table_start c.args.level (list_place g.T.Item.seen) c.args.lists.now c.args.out.now.items c.push.new.self.items c.in_ok-push.ensures.items

pub returns-in_err-extend_from_slice-clause-kept : goal.returns-in_err-extend_from_slice-clause-kept
returns-in_err-extend_from_slice-clause-kept g c =
    on_err _ (pieces_kept _ _ _ _ _ _ _ _ _ [] _ c.loop-place.invariant (c.in_err-extend_from_slice.ensures.items ∙ sym (append-nil c.loop-place.out.items)))

pub returns-in_err-print_blanks-clause-kept : goal.returns-in_err-print_blanks-clause-kept
returns-in_err-print_blanks-clause-kept g c =
    on_err _ (pieces_kept_within _ _ _ _ _ _ _ _ _ _ _ c.loop-place.invariant c.in_ok-extend_from_slice.ensures.items c.in_err-print_blanks.ensures.kept)

pub unwrap-requires : goal.unwrap-requires
unwrap-requires g c = list_there c.args.lists.now c.loop-place.place _ c.get.ensures (omega (arith, c.loop-place-test.true, c.len-place-end.ensures))

pub returns-in_err-print_items-clause-kept : goal.returns-in_err-print_items-clause-kept
returns-in_err-print_items-clause-kept g c =
    on_err _ (pieces_kept_within _ _ _ _ _ _ _ _ _ _ _ c.loop-place.invariant c.in_ok-extend_from_slice.ensures.items
    (kept_behind _ _ _ _ c.in_ok-print_blanks.ensures.printed c.in_err-print_items.ensures.kept))

pub loop-place-preserved : goal.loop-place-preserved
loop-place-preserved g c =
    let row = both_behind _ _ _ _ _ c.in_ok-print_blanks.ensures.printed c.in_ok-print_items.ensures.printed in
    table_go c.args.level (list_place g.T.Item.seen) _ _ _ _ _ _ _ _ c.loop-place.invariant (list_at c.args.lists.now c.loop-place.place _ _ c.get.ensures c.unwrap.ensures) c.in_ok-extend_from_slice.ensures.items
    (row ∙ ap (λ n. c.extend_from_slice.new.self.items ++ row_of_place n (list_place g.T.Item.seen) c.unwrap.result.now) c.in_ok-inside.ensures)

pub returns-clause-printed : goal.returns-clause-printed
returns-clause-printed g c =
    let some = lists_are_table g.T.Item.seen c.args.lists.now (omega (arith, c.if-len-eq0.false, c.len.ensures)) in
    ok_then c.print_close.result c.print_close.ensures.printed (λ e.
    table_end c.args.level (list_place g.T.Item.seen) _ _ _ _ _ _ some c.loop-place.invariant (omega (arith, c.loop-place-test.false, c.len-place-end.ensures)) e)

pub returns-clause-kept : goal.returns-clause-kept
returns-clause-kept g c = err_then c.print_close.result c.print_close.ensures.kept (λ more. pieces_kept _ _ _ _ _ _ _ _ _ more.0 _ c.loop-place.invariant more.1)
