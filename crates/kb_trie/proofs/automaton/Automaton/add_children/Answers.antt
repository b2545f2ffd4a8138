use Rattle.std.proofs.Common.{◌≡◌, ℕ, ◌<◌, List, length, get_or, sym, subst, inl, inr, arith}
use Rattle.std.proofs.lemmas.List.{get_or_read}
use Rattle.std.proofs.lemmas.Bool.{cases_lt}
use Rattle.kb_trie.specs.Adding.{Adds}
use Rattle.kb_trie.specs.Children.{IsLastChild, IsTrieChild, LeadsToChild}
use Rattle.kb_trie.specs.Edges.{words_of}
use Rattle.kb_trie.proofs.ChildLists.{IsLater, later_all, later_first, later_more}
use Rattle.kb_trie.proofs.automaton.Automaton.add_children.Goals as goal

pub loop-child-init : goal.loop-child-init
loop-child-init c =
    let is = c.requires.automaton in
    let words : List (List ℕ) = words_of c.args.self.now.edges.keys in
    let parent : ℕ = c.args.parent in
    let lasts : List ℕ = c.args.self.now.children.lasts.items in
    let child : ℕ = c.index-child.result.now in
    let read : child ≡ get_or lasts parent 0 =
    get_or_read lasts parent child (omega (arith, is.children.last_room, c.requires.parent)) c.index-child.ensures 0 in
    let L : ℕ → Type 0 = λ k. IsLastChild (words_of c.args.self.now.edges.keys) c.args.parent (length (words_of c.args.self.now.edges.keys)) k in
    let last : IsLastChild words parent (length words) child = subst L (sym read) (is.children.last parent c.requires.parent) in
    record {
      is = last.is;
      adds =
          later_first words parent child (LeadsToChild words c.args.state parent) c.args.found.now.items (λ number leads. leads.child) last;
    }

pub loop-child-preserved : goal.loop-child-preserved
loop-child-preserved c =
    let is = c.requires.automaton in
    let words : List (List ℕ) = words_of c.args.self.now.edges.keys in
    let parent : ℕ = c.args.parent in
    let earlier : List ℕ = c.args.self.now.children.earlier.items in
    let child : ℕ = c.loop-child.child in
    let some : 0 < child = omega arith in
    let before = c.loop-child.invariant in
    let child_is : IsTrieChild words parent child = before.is some in
    let next : ℕ = c.index-child-in-loop-child.result.now in
    let read : next ≡ get_or earlier child 0 =
    get_or_read earlier child next (omega (arith, is.children.earlier_room, child_is.child.within)) c.index-child-in-loop-child.ensures 0 in
    let L : ℕ → Type 0 = λ k. IsLastChild (words_of c.args.self.now.edges.keys) c.args.parent c.loop-child.child k in
    let last : IsLastChild words parent child next = subst L (sym read) (is.children.next parent child c.requires.parent child_is) in
    record {
      is = last.is;
      adds =
          later_more words parent child next (LeadsToChild words c.args.state parent) c.args.found.now.items c.loop-child.found.items
          c.add_child.new.found.items (λ number leads. leads.child) last some before.adds c.in_ok-add_child.ensures;
    }

pub loop-child-smaller : goal.loop-child-smaller
loop-child-smaller c =
    let is = c.requires.automaton in
    let words : List (List ℕ) = words_of c.args.self.now.edges.keys in
    let parent : ℕ = c.args.parent in
    let earlier : List ℕ = c.args.self.now.children.earlier.items in
    let child : ℕ = c.loop-child.child in
    let some : 0 < child = omega arith in
    let child_is : IsTrieChild words parent child = c.loop-child.invariant.is some in
    let next : ℕ = c.index-child-in-loop-child.result.now in
    let read : next ≡ get_or earlier child 0 =
    get_or_read earlier child next (omega (arith, is.children.earlier_room, child_is.child.within)) c.index-child-in-loop-child.ensures 0 in
    let last : IsLastChild words parent child (get_or earlier child 0) = is.children.next parent child c.requires.parent child_is in
    elim (cases_lt 0 (get_or earlier child 0)) [
      | inl positive ↦ omega (arith, last.before positive)
      | inr zero ↦ omega arith
    ]

pub returns : goal.returns
returns c =
    let words : List (List ℕ) = words_of c.args.self.now.edges.keys in
    let parent : ℕ = c.args.parent in
    let Such : ℕ → Type 0 = LeadsToChild (words_of c.args.self.now.edges.keys) c.args.state c.args.parent in
    let done : c.loop-child.child ≡ 0 = omega arith in
    let A : ℕ → Type 0 = λ k. Adds (IsLater (LeadsToChild (words_of c.args.self.now.edges.keys) c.args.state c.args.parent) k) c.args.found.now.items c.loop-child.found.items in
    later_all words c.requires.automaton.states.are parent Such c.args.found.now.items c.loop-child.found.items (λ number leads. leads.child)
    (subst A done c.loop-child.invariant.adds)
