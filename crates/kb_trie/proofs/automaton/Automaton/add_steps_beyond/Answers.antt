use Rattle.std.proofs.Common.{◌≡◌, ℕ, List, length, ap, ◌∙◌, arith}
use Rattle.kb_trie.specs.Edges.{words_of}
use Rattle.kb_trie.specs.States.{word}
use Rattle.kb_trie.proofs.Leading.{linking_first, linking_more, linking_root, linking_short}
use Rattle.kb_trie.proofs.Longest.{link_shorter}
use Rattle.kb_trie.proofs.automaton.Automaton.add_steps_beyond.Goals as goal

pub loop-at-init : goal.loop-at-init
loop-at-init c = linking_first (words_of c.args.self.now.edges.keys) c.args.state c.args.beyond c.args.found.now.items c.requires.state

pub loop-at-preserved : goal.loop-at-preserved
loop-at-preserved c =
    let words : List (List ℕ) = words_of c.args.self.now.edges.keys in
    linking_more words c.requires.automaton.states.are c.args.state c.args.beyond c.loop-at.at c.link-at.result c.args.found.now.items
    c.loop-at.found.items c.add_children.new.found.items (omega arith) (omega (arith, c.depth.ensures)) c.link-at.ensures c.loop-at.invariant
    c.in_ok-add_children.ensures

pub loop-at-smaller : goal.loop-at-smaller
loop-at-smaller c =
    link_shorter (words_of c.args.self.now.edges.keys) c.requires.automaton.states.are c.loop-at.at c.link-at.result (omega arith)
    c.loop-at.invariant.within c.link-at.ensures

pub returns : goal.returns
returns c =
    linking_root (words_of c.args.self.now.edges.keys) c.requires.automaton.states.are c.args.state c.args.beyond c.loop-at.at c.args.found.now.items
    c.loop-at.found.items c.add_children-2.new.found.items (omega arith) (omega arith) c.loop-at.invariant c.in_ok-add_children-2.ensures

pub returns-then-depth-beyond : goal.returns-then-depth-beyond
returns-then-depth-beyond c =
    linking_short (words_of c.args.self.now.edges.keys) c.args.state c.args.beyond c.loop-at.at c.args.found.now.items c.loop-at.found.items
    (omega (arith, c.depth.ensures, c.if-depth-beyond.true)) c.loop-at.invariant

pub returns-then-beyond-gt0 : goal.returns-then-beyond-gt0
returns-then-beyond-gt0 c =
    let root : c.loop-at.at ≡ 0 = omega arith in
    let short : length (word (words_of c.args.self.now.edges.keys) c.loop-at.at) ≡ 0 =
    ap length (ap (word (words_of c.args.self.now.edges.keys)) root ∙ c.requires.automaton.states.are.root) in
    linking_short (words_of c.args.self.now.edges.keys) c.args.state c.args.beyond c.loop-at.at c.args.found.now.items c.loop-at.found.items
    (omega (arith, short, c.if-beyond-gt0.true)) c.loop-at.invariant
