use Rattle.std.proofs.Common.{not}
use Rattle.std.specs.List.{count_by}
use Rattle.kb_count.specs.Totals.{AreTotals}
use Rattle.kb_count.proofs.totals.totals_of.Given as goal

abbrev pub invariant-loop-totals : goal.invariant-loop-totals
invariant-loop-totals l = AreTotals l.table l.totals.settled.items l.totals.numbers.items

-- each pass but the last settles a state
abbrev pub decreases-loop-totals : goal.decreases-loop-totals
decreases-loop-totals l = count_by not l.totals.settled.items
