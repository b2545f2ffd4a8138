use Rattle.std.specs.Prelude.{◌-◌, length}
use Rattle.kb_system.specs.Problems.{limits_of}
use Rattle.kb_auto.specs.Rounds.{IsUnderWay}
use Rattle.kb_auto.proofs.searching.search_by_growths.Given as goal

abbrev pub invariant-growths : goal.invariant-growths
invariant-growths g l = IsUnderWay (limits_of l.limits) l.presentation l.book.course l.finder

abbrev pub decreases-growths : goal.decreases-growths
decreases-growths g l = l.book.course.problem.most_lines - length l.book.course.state.lines
