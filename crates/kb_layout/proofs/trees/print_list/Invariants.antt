use Rattle.kb_record.specs.View.{written_places}
use Rattle.kb_layout.proofs.PrintedPieces.{IsTableUpTo}
use Rattle.kb_layout.proofs.trees.print_list.Given as goal

abbrev pub invariant-loop-place : goal.invariant-loop-place
invariant-loop-place l = IsTableUpTo l.level (λ p. p) (written_places l.places) l.fn.out.items l.place l.before l.out.items
