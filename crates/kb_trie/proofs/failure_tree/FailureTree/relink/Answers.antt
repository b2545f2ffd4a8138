use Rattle.std.proofs.Common.{◌≡◌, ℕ, ◌+◌, ◌<◌, List, length, get_or, set, sym, ap, ◌∙◌, subst, arith}
use Rattle.std.proofs.lemmas.List.{get_or-set_other}
use Rattle.kb_trie.proofs.FailureLists.{moved_more, within_more}
use Rattle.kb_trie.proofs.failure_tree.FailureTree.relink.Goals as goal

pub loop-state-preserved : goal.loop-state-preserved
loop-state-preserved c =
    let states : List ℕ = c.args.states.now in
    let link : ℕ = c.args.link in
    let index : ℕ = c.loop-state.state-index in
    let state : ℕ = get_or states index 0 in
    let links : List ℕ = c.loop-state.self.links.items in
    let before = c.loop-state.invariant in
    let in_states : index < length states = omega arith in
    let of_state = c.requires.states index in_states in
    let in_links : state < length links = omega (arith, of_state.1, before.count, before.tree.link_room) in
    let set_is : c.move_to.new.self.links.items ≡ set links state link = c.move_to.ensures.links in
    let W : List ℕ → Type 0 = λ ls. (s : ℕ) → s < c.loop-state.self.count → get_or ls s 0 < c.loop-state.self.count in
    let N : ℕ → Type 0 = λ n. (s : ℕ) → s < n → get_or c.move_to.new.self.links.items s 0 < n in
    let M : List ℕ → Type 0 = λ ls. (i : ℕ) → i < index + 1 → get_or ls (get_or states i 0) 0 ≡ link in
    let moved : M (set links state link) = moved_more links states index link in_links before.moved in
    record {
      count = c.move_to.ensures.count ∙ before.count;
      tree = c.move_to.ensures.tree;
      within =
          subst N (sym c.move_to.ensures.count)
          (subst W (sym set_is)
          (within_more links state link c.loop-state.self.count in_links (omega (arith, c.requires.link, before.count)) before.within));
      first = λ i late within. omega (arith, c.move_to.ensures.first, c.requires.ascend index i (omega arith) within);
      moved = subst M (sym set_is) moved;
      others = λ one apart.
          ap (λ (ls : List ℕ). get_or ls one 0) set_is
          ∙ get_or-set_other links state one link 0 (λ same. apart index (omega arith) (sym same))
          ∙ before.others one (λ i early. apart i (omega arith));
    }
