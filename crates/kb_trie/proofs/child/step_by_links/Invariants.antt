use Rattle.std.proofs.Common.{ℕ, ◌<◌, length}
use Rattle.kb_trie.specs.States.{word}
use Rattle.kb_trie.specs.Edges.{words_of}
use Rattle.kb_trie.specs.Steps.{IsStep}
use Rattle.kb_trie.proofs.child.step_by_links.Given as goal

-- the steps of the state that was reached are those of the first one
abbrev pub invariant-loop-at : goal.invariant-loop-at
invariant-loop-at l = record {
  within : l.at < length (words_of l.edges.keys);
  same : (after : ℕ) → IsStep (words_of l.edges.keys) l.at l.letter after
      → IsStep (words_of l.edges.keys) l.state l.letter after;
}

abbrev pub decreases-loop-at : goal.decreases-loop-at
decreases-loop-at l = length (word (words_of l.edges.keys) l.at)
