use Rattle.std.proofs.Common.{◌≡◌, ℕ, List, get_or, sym, ◌∙◌, arith}
use Rattle.std.proofs.lemmas.List.{get_or_read}
use Rattle.kb_trie.proofs.FailureLists.{taken_out}
use Rattle.kb_trie.proofs.failure_tree.FailureTree.take_out.Goals as goal
use Rattle.kb_trie.proofs.failure_tree.FailureTree.take_out.Goals.{then-first-state, else-first-state}

pub returns-clause-tree : goal.returns-clause-tree
returns-clause-tree c =
    let links : List ℕ = c.args.self.now.links.items in
    let firsts : List ℕ = c.args.self.now.firsts.items in
    let nexts : List ℕ = c.args.self.now.nexts.items in
    let backs : List ℕ = c.args.self.now.previous.items in
    let state : ℕ = c.args.state in
    let link : ℕ = c.index.result.now in
    let are = c.requires.tree in
    let link_is : link ≡ get_or links state 0 = get_or_read links state link (omega (arith, are.link_room)) c.index.ensures 0 in
    let next_is : c.index-next.result.now ≡ get_or nexts state 0 =
    get_or_read nexts state c.index-next.result.now (omega (arith, are.next_room)) c.index-next.ensures 0 in
    let previous_is : c.index-previous.result.now ≡ get_or backs state 0 =
    get_or_read backs state c.index-previous.result.now (omega (arith, are.previous_room)) c.index-previous.ensures 0 in
    let first_is : c.index-first.result.now ≡ get_or firsts link 0 =
    get_or_read firsts link c.index-first.result.now (omega (arith, are.first_room, c.requires.linked)) c.index-first.ensures 0 in
    let head : ℕ = c.if-first-state.head in
    let at_head : get_or firsts link 0 ≡ state → head ≡ c.index-next.result.now = λ is.
    elim c.if-first-state.branch [
      | then-first-state w ↦ w.head-is
      | else-first-state w ↦ absurd (let no : ⊥ = omega (arith, w.if-first-state.false) in no)
    ] in
    let no_head : (get_or firsts link 0 ≡ state → ⊥) → head ≡ get_or firsts link 0 = λ not.
    elim c.if-first-state.branch [
      | then-first-state w ↦ absurd (not (sym first_is ∙ w.if-first-state.true))
      | else-first-state w ↦ w.head-is ∙ first_is
    ] in
    taken_out c.args.self.now.count links firsts nexts backs state 4294967295 link c.index-next.result.now c.index-previous.result.now head are
    c.requires.some c.requires.state c.requires.linked c.requires.count link_is next_is previous_is at_head no_head
