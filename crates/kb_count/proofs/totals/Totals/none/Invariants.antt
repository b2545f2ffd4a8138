use Rattle.std.proofs.Common.{◌≡◌, ℕ, get_or, false, length}
use Rattle.kb_count.proofs.totals.Totals.none.Given as goal

-- no state so far is settled
abbrev pub invariant-loop : goal.invariant-loop
invariant-loop l = record {
  mark_each : length l.settled.items ≡ l.counter;
  one_each : length l.numbers.items ≡ l.counter;
  none : (s : ℕ) → get_or l.settled.items s false ≡ false;
}
