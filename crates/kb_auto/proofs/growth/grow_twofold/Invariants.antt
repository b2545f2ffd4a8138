use Rattle.std.specs.Prelude.{◌-◌, length}
use Rattle.kb_share.specs.Finding.{Knows}
use Rattle.kb_complete.specs.Completing.{Continues}
use Rattle.kb_auto.proofs.growth.grow_twofold.Given as goal

abbrev pub invariant-growing : goal.invariant-growing
invariant-growing g l = record {
  continues : Continues l.fn.book.course l.book.course;
  known : Knows l.finder l.book.course.state;
}

abbrev pub decreases-growing : goal.decreases-growing
decreases-growing g l = l.book.course.problem.most_lines - length l.book.course.state.lines
