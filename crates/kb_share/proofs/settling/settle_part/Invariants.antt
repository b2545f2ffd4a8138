use Rattle.kb_share.proofs.settling.settle_part.Given as goal
use Rattle.kb_share.specs.Finding.{Knows}
use Rattle.kb_share.specs.Interreduced.{StaysReduced}
use Rattle.kb_share.specs.Settling.{Settles}
use Rattle.kb_share.specs.Work.{work}

abbrev pub invariant-making : goal.invariant-making
invariant-making g l = record {
  settles : Settles l.fn.book.course l.book.course;
  known : Knows l.finder l.book.course.state;
  reduced : StaysReduced l.fn.book.course l.book.course;
}

abbrev pub decreases-making : goal.decreases-making
decreases-making g l = work l.book.course
