use Rattle.std.proofs.Common.{◌≡◌, ℕ, ◌+◌, ◌<◌, ◌≤◌, length, get_or}
use Rattle.kb_trie.specs.Edges.{words_of}
use Rattle.kb_trie.specs.Walks.{AreDeep, IsWalking, Notes}
use Rattle.kb_trie.proofs.walk.Walk.go_down.Given as goal

abbrev pub invariant-loop-place : goal.invariant-loop-place
invariant-loop-place l = record {
  longer : l.end ≤ length l.self.free.items;
  same : (place : ℕ) → place < l.end
      → get_or l.self.free.items place 0 ≡ get_or l.fn.self.free.items place 0;
  walking : IsWalking (words_of l.edges.keys) l.tree.links.items (Notes (words_of l.edges.keys) l.numbers l.stop)
      l.root l.place l.self.free.items l.self.stopped.items;
  deeper : (level : ℕ) → AreDeep (words_of l.edges.keys) level l.start l.fn.self.free.items
      → AreDeep (words_of l.edges.keys) (level + 1) l.end l.self.free.items;
}
