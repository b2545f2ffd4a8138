use Rattle.std.proofs.Common.{◌≡◌, ◌<◌, get_or}
use Rattle.kb_trie.specs.Edges.{words_of}
use Rattle.kb_trie.specs.Walks.{Gains, Notes}
use Rattle.kb_trie.proofs.walk.Walk.look.Given as goal

abbrev pub invariant-loop-state : goal.invariant-loop-state
invariant-loop-state l = record {
  within : l.state < l.tree.count;
  linked : 0 < l.state → get_or l.tree.links.items l.state 0 ≡ l.at;
  gains : Gains l.tree.count l.tree.links.items (Notes (words_of l.edges.keys) l.numbers l.stop) l.at l.state
      l.fn.self.free.items l.fn.self.stopped.items l.self.free.items l.self.stopped.items;
}

abbrev pub decreases-loop-state : goal.decreases-loop-state
decreases-loop-state l = l.state
