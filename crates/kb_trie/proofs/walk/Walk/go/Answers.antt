use Rattle.std.proofs.Common.{arith}
use Rattle.kb_trie.specs.Edges.{words_of}
use Rattle.kb_trie.specs.Walks.{Notes}
use Rattle.kb_trie.proofs.Walking.{walk_ends}
use Rattle.kb_trie.proofs.walk.Walk.go.Goals as goal

pub loop-level-preserved : goal.loop-level-preserved
loop-level-preserved c =
    record {
      start = c.in_ok-go_down.ensures.longer;
      walking = c.in_ok-go_down.ensures.walking;
      deep = c.in_ok-go_down.ensures.deeper c.loop-level.level c.loop-level.invariant.deep;
    }

pub returns : goal.returns
returns c =
    walk_ends (words_of c.args.edges.now.keys) c.requires.states.are c.args.tree.now.links.items (Notes (words_of c.args.edges.now.keys) c.args.numbers.now c.args.stop) c.args.root
    c.loop-level.level c.loop-level.start c.loop-level.self.free.items c.loop-level.self.stopped.items (omega (arith, c.requires.count))
    c.loop-level.invariant.start c.loop-level.invariant.deep c.loop-level.invariant.walking
