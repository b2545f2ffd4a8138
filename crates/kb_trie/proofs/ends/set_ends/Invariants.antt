use Rattle.std.proofs.Common.{◌≡◌, ℕ, ◌<◌, length, get_or}
use Rattle.kb_trie.proofs.ends.set_ends.Given as goal

abbrev pub invariant-loop-state : goal.invariant-loop-state
invariant-loop-state l = record {
  count : length l.ends ≡ length l.fn.ends;
  moved : (i : ℕ) → i < l.state-index → get_or l.ends (get_or l.states i 0) 0 ≡ l.end;
  others : (state : ℕ) → ((i : ℕ) → i < l.state-index → get_or l.states i 0 ≡ state → ⊥)
      → get_or l.ends state 0 ≡ get_or l.fn.ends state 0;
}
