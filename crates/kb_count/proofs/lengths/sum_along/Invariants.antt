use Rattle.std.proofs.Common.{◌≡◌, ◌+◌, drop}
use Rattle.kb_count.specs.Totals.{sum_along}
use Rattle.kb_count.proofs.lengths.sum_along.Given as goal

abbrev pub invariant-loop-target : goal.invariant-loop-target
invariant-loop-target l = l.sum + sum_along l.numbers (drop l.target-index l.row) ≡ l.fn.own + sum_along l.numbers l.row
