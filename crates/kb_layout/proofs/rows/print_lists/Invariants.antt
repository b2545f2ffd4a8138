use Rattle.kb_layout.specs.Printing.{list_place}
use Rattle.kb_layout.proofs.PrintedPieces.{IsTableUpTo}
use Rattle.kb_layout.proofs.rows.print_lists.Given as goal

abbrev pub invariant-loop-place : goal.invariant-loop-place
invariant-loop-place g l = IsTableUpTo l.level (list_place g.T.Item.seen) l.lists l.fn.out.items l.place l.before l.out.items
