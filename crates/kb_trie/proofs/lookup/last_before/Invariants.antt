use Rattle.std.proofs.Common.{ℕ, ◌-◌, ◌<◌}
use Rattle.kb_trie.specs.LeftSides.{HasAt}
use Rattle.kb_trie.specs.Lookups.{states_in}
use Rattle.kb_trie.proofs.lookup.last_before.Given as goal

-- the number that was reached has the state of the first one
abbrev pub invariant-loop-next : goal.invariant-loop-next
invariant-loop-next l = record {
  before : l.at < l.bound;
  same : (state : ℕ) → HasAt (states_in l.entries) state l.first → HasAt (states_in l.entries) state l.at;
}

abbrev pub decreases-loop-next : goal.decreases-loop-next
decreases-loop-next l = l.bound - l.at
