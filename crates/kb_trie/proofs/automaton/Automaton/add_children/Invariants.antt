use Rattle.std.proofs.Common.{◌<◌}
use Rattle.kb_trie.specs.Adding.{Adds}
use Rattle.kb_trie.specs.Children.{IsTrieChild, LeadsToChild}
use Rattle.kb_trie.specs.Tries.{words_in}
use Rattle.kb_trie.proofs.ChildLists.{IsLater}
use Rattle.kb_trie.proofs.automaton.Automaton.add_children.Given as goal

-- those later than this one were added
abbrev pub invariant-loop-child : goal.invariant-loop-child
invariant-loop-child l = record {
  is : 0 < l.child → IsTrieChild (words_in l.self) l.parent l.child;
  adds : Adds (IsLater (LeadsToChild (words_in l.self) l.state l.parent) l.child) l.fn.found.items
      l.found.items;
}

abbrev pub decreases-loop-child : goal.decreases-loop-child
decreases-loop-child l = l.child
