use Rattle.std.proofs.Common.{◌≡◌, ℕ, ◌<◌, ◌≤◌, length, get_or}
use Rattle.kb_trie.specs.FailureTrees.{IsFailureTree}
use Rattle.kb_trie.proofs.failure_tree.FailureTree.relink.Given as goal

abbrev pub invariant-loop-state : goal.invariant-loop-state
invariant-loop-state l = record {
  count : l.self.count ≡ l.fn.self.count;
  tree : IsFailureTree l.self;
  within : (state : ℕ) → state < l.self.count → get_or l.self.links.items state 0 < l.self.count;
  first : (i : ℕ) → l.state-index ≤ i → i < length l.states
      → get_or l.self.firsts.items l.link 0 ≤ get_or l.states i 0;
  moved : (i : ℕ) → i < l.state-index → get_or l.self.links.items (get_or l.states i 0) 0 ≡ l.link;
  others : (state : ℕ) → ((i : ℕ) → i < l.state-index → get_or l.states i 0 ≡ state → ⊥)
      → get_or l.self.links.items state 0 ≡ get_or l.fn.self.links.items state 0;
}
