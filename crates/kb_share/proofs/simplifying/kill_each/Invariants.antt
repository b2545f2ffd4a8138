use Rattle.kb_share.proofs.simplifying.kill_each.Given as goal
use Rattle.kb_share.specs.Simplifying.{KillsRest}

abbrev pub invariant-loop-line : goal.invariant-loop-line
invariant-loop-line g l = KillsRest l.fn.book.course l.book.course l.lines l.line-index
