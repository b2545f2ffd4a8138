use Rattle.std.proofs.Common.{◌≡◌, ◌↔◌, ℕ, suc, IsTrue, length, get_or, false, take, Contains}
use Rattle.kb_fsafile.proofs.accepting.accepting_marks.Given as goal

abbrev pub invariant-loop-state : goal.invariant-loop-state
invariant-loop-state l = record {
  one_each : length l.marks.items ≡ l.count;
  each : (place : ℕ) → IsTrue (get_or l.marks.items place false) ↔ Contains (take l.state-index l.states) (suc place);
}
