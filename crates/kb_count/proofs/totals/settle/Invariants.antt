use Rattle.std.proofs.Common.{◌≡◌, ◌<◌, ◌≤◌, length, IsTrue, IsFalse, not}
use Rattle.std.specs.List.{count_by}
use Rattle.kb_count.specs.Totals.{AreTotals, AreStuckAbove}
use Rattle.kb_count.proofs.totals.settle.Given as goal

-- as long as none was settled, the states above are stuck
abbrev pub invariant-loop-state : goal.invariant-loop-state
invariant-loop-state l = record {
  totals : AreTotals l.table l.totals.settled.items l.totals.numbers.items;
  within : l.state ≤ length l.table.rows;
  more : IsTrue l.more → count_by not l.totals.settled.items < count_by not l.fn.totals.settled.items;
  same : IsFalse l.more → l.totals.settled.items ≡ l.fn.totals.settled.items;
  stuck : IsFalse l.more → AreStuckAbove l.state l.table l.totals.settled.items;
}

abbrev pub decreases-loop-state : goal.decreases-loop-state
decreases-loop-state l = l.state
