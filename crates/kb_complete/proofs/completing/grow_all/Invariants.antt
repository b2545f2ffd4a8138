use Rattle.std.specs.Prelude.{◌≡◌, ◌-◌, length}
use Rattle.kb_share.specs.Finding.{Knows}
use Rattle.kb_complete.specs.Completing.{AreReduced}
use Rattle.kb_complete.proofs.completing.grow_all.Given as goal

abbrev pub invariant-growing : goal.invariant-growing
invariant-growing g l = record {
  problem : l.book.course.problem ≡ l.fn.book.course.problem;
  reduced : AreReduced l.book.course;
  known : Knows l.finder l.book.course.state;
}

abbrev pub decreases-growing : goal.decreases-growing
decreases-growing g l = l.book.course.problem.most_lines - length l.book.course.state.lines
