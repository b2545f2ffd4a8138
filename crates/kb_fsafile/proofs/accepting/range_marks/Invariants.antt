use Rattle.std.proofs.Common.{◌≡◌, ◌↔◌, ◌≤◌, ℕ, suc, IsTrue, length, get_or, false}
use Rattle.kb_fsafile.proofs.accepting.range_marks.Given as goal

abbrev pub invariant-loop-place : goal.invariant-loop-place
invariant-loop-place l = record {
  one_each : length l.marks.items ≡ l.count;
  each : (place : ℕ) → IsTrue (get_or l.marks.items place false) ↔ ((l.from ≤ suc place) × (suc place ≤ l.place) × (suc place ≤ l.to));
}
