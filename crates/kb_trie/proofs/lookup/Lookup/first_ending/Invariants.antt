use Rattle.std.proofs.Common.{length}
use Rattle.kb_trie.specs.States.{word}
use Rattle.kb_trie.specs.Lookups.{lefts_of, states_in}
use Rattle.kb_trie.proofs.Looking.{Looking}
use Rattle.kb_trie.proofs.lookup.Lookup.first_ending.Given as goal

abbrev pub invariant-loop-first : goal.invariant-loop-first
invariant-loop-first l = record {
  looking : Looking l.self-inside.trie (lefts_of l.self-inside.trie.words (states_in l.self-inside.entries.items))
      (word l.self-inside.trie.words l.state) l.end l.least;
}

abbrev pub decreases-loop-first : goal.decreases-loop-first
decreases-loop-first l = length (word l.self-inside.trie.words l.end)
