use Rattle.kb_layout.proofs.PrintedPieces.{IsListUpTo}
use Rattle.kb_layout.proofs.rows.print_items.Given as goal

abbrev pub invariant-loop-item : goal.invariant-loop-item
invariant-loop-item g l = IsListUpTo g.T.Item.seen l.items l.fn.out.items l.item-index l.before l.out.items
