use Rattle.std.specs.Prelude.{◌-◌, length}
use Rattle.kb_system.specs.Problems.{limits_of}
use Rattle.kb_auto.specs.Rounds.{IsUnderWay}
use Rattle.kb_auto.proofs.rounds.decide_by_rounds.Given as goal

abbrev pub invariant-rounds : goal.invariant-rounds
invariant-rounds g l = IsUnderWay (limits_of l.limits) l.presentation l.book.course l.finder

abbrev pub decreases-rounds : goal.decreases-rounds
decreases-rounds g l = l.book.course.problem.most_lines - length l.book.course.state.lines
