use Rattle.std.proofs.Common.{◌∙◌, [], sym, append-nil, arith}
use Rattle.kb_layout.specs.Printing.{list_place}
use Rattle.kb_layout.proofs.PrintedPieces.{on_err, list_start, list_end, pieces_kept, pieces_kept_within, pieces_go_at}
use Rattle.kb_layout.proofs.PrintedTrees.{list_at}
use Rattle.kb_layout.proofs.rows.print_lists_on_line.Goals as goal

pub loop-place-init : goal.loop-place-init
loop-place-init g c = list_start (list_place g.T.Item.seen) c.args.lists.now c.args.out.now.items c.push.new.self.items c.in_ok-push.ensures.items

pub returns-in_err-extend_from_slice-clause-kept : goal.returns-in_err-extend_from_slice-clause-kept
returns-in_err-extend_from_slice-clause-kept g c =
    on_err _ (pieces_kept _ _ _ _ _ _ _ _ _ [] _ c.loop-place.invariant (c.in_err-extend_from_slice.ensures.items ∙ sym (append-nil c.loop-place.out.items)))

pub returns-in_err-print_items-clause-kept : goal.returns-in_err-print_items-clause-kept
returns-in_err-print_items-clause-kept g c =
    on_err _ (pieces_kept_within _ _ _ _ _ _ _ _ _ _ _ c.loop-place.invariant c.in_ok-extend_from_slice.ensures.items c.in_err-print_items.ensures.kept)

pub returns-in_err-push-2-clause-kept : goal.returns-in_err-push-2-clause-kept
returns-in_err-push-2-clause-kept g c =
    on_err _ (pieces_kept _ _ _ _ _ _ _ _ _ [] _ c.loop-place.invariant (c.in_err-push-2.ensures.items ∙ sym (append-nil c.loop-place.out.items)))

pub returns-clause-printed : goal.returns-clause-printed
returns-clause-printed g c = list_end (list_place g.T.Item.seen) _ _ _ _ _ _ c.loop-place.invariant (omega (arith, c.loop-place-test.false, c.len-place-end.ensures)) c.in_ok-push-2.ensures.items

pub loop-place-preserved : goal.loop-place-preserved
loop-place-preserved g c =
    pieces_go_at _ _ _ _ _ _ _ _ _ _ _ _ c.loop-place.invariant (list_at c.args.lists.now c.loop-place.place _ _ c.get.ensures c.unwrap.ensures) c.in_ok-extend_from_slice.ensures.items c.in_ok-print_items.ensures.printed
