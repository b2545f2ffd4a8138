use Rattle.std.proofs.Common.{◌≡◌, ◌+◌, ◌≤◌, ℕ, get_or, length}
use Rattle.kb_count.specs.Counts.{AreSoMany, IsAcceptedOfLength}
use Rattle.kb_count.specs.Totals.{AreNumbersOfLength}
use Rattle.kb_count.proofs.lengths.counts_over.Given as goal

-- the numbers of the lengths so far, and for each state that of the last of these lengths
abbrev pub invariant-loop : goal.invariant-loop
invariant-loop l = record {
  count : length l.counts.items ≡ l.counter + 1;
  numbers : AreNumbersOfLength l.table l.counter l.numbers.items;
  right : (long : ℕ) → long ≤ l.counter
      → AreSoMany (IsAcceptedOfLength l.table long l.first) (get_or l.counts.items long 0);
}
