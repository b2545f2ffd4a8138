use Rattle.std.proofs.Common.{ℕ}
use Rattle.std.proofs.lemmas.List.Sorted.{IsNonDecreasingBy-from_sort}
use Rattle.kb_trie.specs.Edges.{words_of}
use Rattle.kb_trie.proofs.Growing.{HasChild}
use Rattle.kb_trie.proofs.Walking.{walk_permuted}
use Rattle.kb_trie.proofs.walk.Walk.find_children.Goals as goal

pub returns : goal.returns
returns c =
    record {
      walk =
          walk_permuted (words_of c.args.edges.now.keys) c.args.tree.now.links.items (HasChild (words_of c.args.edges.now.keys) c.args.letter) c.args.state
          c.go.new.self.free.items c.go.new.self.stopped.items c.sort_unstable.new.self.items c.sort_unstable.ensures.permutation c.in_ok-go.ensures;
      ascend = λ i j upto within.
          IsNonDecreasingBy-from_sort (λ (x : ℕ). x) c.sort_unstable.new.self.items c.sort_unstable.ensures.sorted i j 0 upto within;
    }
