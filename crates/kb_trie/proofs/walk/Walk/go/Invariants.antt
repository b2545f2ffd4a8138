use Rattle.std.proofs.Common.{◌≤◌, length}
use Rattle.kb_trie.specs.Edges.{words_of}
use Rattle.kb_trie.specs.Walks.{AreDeep, IsWalking, Notes}
use Rattle.kb_trie.proofs.walk.Walk.go.Given as goal

abbrev pub invariant-loop-level : goal.invariant-loop-level
invariant-loop-level l = record {
  start : l.start ≤ length l.self.free.items;
  walking : IsWalking (words_of l.edges.keys) l.tree.links.items (Notes (words_of l.edges.keys) l.numbers l.stop)
      l.root l.start l.self.free.items l.self.stopped.items;
  deep : AreDeep (words_of l.edges.keys) l.level l.start l.self.free.items;
}
