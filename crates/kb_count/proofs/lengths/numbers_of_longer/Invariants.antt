use Rattle.std.proofs.Common.{◌≡◌, ◌<◌, ℕ, suc, get_or, length}
use Rattle.kb_count.specs.Counts.{AreSoMany, IsAcceptedOfLength}
use Rattle.kb_count.specs.Totals.{AreNumbersOfLength}
use Rattle.kb_count.proofs.lengths.numbers_of_longer.Given as goal

-- the numbers of the first states
abbrev pub invariant-loop-state : goal.invariant-loop-state
invariant-loop-state l = record {
  count : length l.longer.items ≡ l.state;
  right : (long s : ℕ) → AreNumbersOfLength l.table long l.numbers → s < l.state
      → AreSoMany (IsAcceptedOfLength l.table (suc long) s) (get_or l.longer.items s 0);
}
