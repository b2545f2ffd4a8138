use Rattle.kb_share.proofs.simplifying.shorten_each.Given as goal
use Rattle.kb_share.specs.Simplifying.{ShortensRest}

abbrev pub invariant-loop-line : goal.invariant-loop-line
invariant-loop-line g l = ShortensRest l.fn.book.course l.book.course l.lines l.line-index
