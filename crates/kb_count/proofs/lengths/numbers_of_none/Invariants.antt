use Rattle.std.proofs.Common.{◌≡◌, ◌<◌, ℕ, get_or, length}
use Rattle.kb_count.specs.Counts.{AreSoMany, IsAcceptedOfLength}
use Rattle.kb_count.proofs.lengths.numbers_of_none.Given as goal

-- the numbers of the first states
abbrev pub invariant-loop-state : goal.invariant-loop-state
invariant-loop-state l = record {
  count : length l.numbers.items ≡ l.state;
  right : (s : ℕ) → s < l.state → AreSoMany (IsAcceptedOfLength l.table 0 s) (get_or l.numbers.items s 0);
}
