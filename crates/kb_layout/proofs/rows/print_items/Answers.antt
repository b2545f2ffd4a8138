use Rattle.std.proofs.Common.{◌∙◌, [], sym, append-nil}
use Rattle.kb_layout.proofs.PrintedPieces.{on_err, list_start, list_end, pieces_kept, pieces_kept_within, pieces_go}
use Rattle.kb_layout.proofs.rows.print_items.Goals as goal

pub loop-item-init : goal.loop-item-init
loop-item-init g c = list_start g.T.Item.seen c.args.items.now c.args.out.now.items c.push.new.self.items c.in_ok-push.ensures.items

pub returns-in_err-extend_from_slice-clause-kept : goal.returns-in_err-extend_from_slice-clause-kept
returns-in_err-extend_from_slice-clause-kept g c =
    on_err _ (pieces_kept _ _ _ _ _ _ _ _ _ [] _ c.loop-item.invariant (c.in_err-extend_from_slice.ensures.items ∙ sym (append-nil c.loop-item.out.items)))

pub returns-in_err-print-clause-kept : goal.returns-in_err-print-clause-kept
returns-in_err-print-clause-kept g c =
    on_err _ (pieces_kept_within _ _ _ _ _ _ _ _ _ _ _ c.loop-item.invariant c.in_ok-extend_from_slice.ensures.items c.in_err-print.ensures.kept)

pub returns-in_err-push-2-clause-kept : goal.returns-in_err-push-2-clause-kept
returns-in_err-push-2-clause-kept g c =
    on_err _ (pieces_kept _ _ _ _ _ _ _ _ _ [] _ c.loop-item.invariant (c.in_err-push-2.ensures.items ∙ sym (append-nil c.loop-item.out.items)))

pub loop-item-preserved : goal.loop-item-preserved
loop-item-preserved g c =
    pieces_go _ _ _ _ _ _ _ _ _ c.item-item.result _ _ c.loop-item.invariant c.loop-item-test.true c.item-item.is c.in_ok-extend_from_slice.ensures.items c.in_ok-print.ensures.printed

pub returns-clause-printed : goal.returns-clause-printed
returns-clause-printed g c = list_end g.T.Item.seen _ _ _ _ _ _ c.loop-item.invariant c.loop-item-test.false c.in_ok-push-2.ensures.items
