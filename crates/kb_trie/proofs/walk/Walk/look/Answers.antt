use Rattle.std.proofs.Common.{◌≡◌, ℕ, ◌<◌, List, get_or, sym, subst, inl, inr, arith}
use Rattle.std.proofs.lemmas.List.{get_or_read}
use Rattle.std.proofs.lemmas.Bool.{cases_lt}
use Rattle.kb_trie.specs.Edges.{words_of}
use Rattle.kb_trie.specs.FailureTrees.{IsLastLinked}
use Rattle.kb_trie.specs.Walks.{Notes}
use Rattle.kb_trie.proofs.Walking.{gains_add}
use Rattle.kb_trie.proofs.walk.Walk.look.Goals as goal

pub loop-state-preserved : goal.loop-state-preserved
loop-state-preserved c =
    let tree = c.args.tree.now in
    let links : List ℕ = tree.links.items in
    let nexts : List ℕ = tree.nexts.items in
    let at : ℕ = c.args.at in
    let state : ℕ = c.loop-state.state in
    let next : ℕ = c.index-state-in-loop-state.result.now in
    let some : 0 < state = omega arith in
    let within : state < tree.count = c.loop-state.invariant.within in
    let linked : get_or links state 0 ≡ at = c.loop-state.invariant.linked some in
    let next_is : next ≡ get_or nexts state 0 =
    get_or_read nexts state next (omega (arith, c.requires.tree.next_room)) c.index-state-in-loop-state.ensures 0 in
    let L : ℕ → Type 0 = λ l. IsLastLinked links l state (get_or nexts state 0) in
    let M : ℕ → Type 0 = λ n. IsLastLinked links at state n in
    let last : IsLastLinked links at state next =
    subst M (sym next_is) (subst L linked (c.requires.tree.next state some within (omega (arith, c.requires.at)))) in
    record {
      within = elim (cases_lt 0 next) [
        | inl positive ↦ omega (arith, last.before positive)
        | inr zero ↦ omega arith
      ];
      linked = last.linked;
      gains =
          gains_add tree.count links (Notes (words_of c.args.edges.now.keys) c.args.numbers.now c.args.stop) at state next c.noted.result c.args.self.now.free.items
          c.args.self.now.stopped.items c.loop-state.self.free.items c.loop-state.self.stopped.items c.add.new.self.free.items
          c.add.new.self.stopped.items (record { some = some; within = within; linked = linked }) c.noted.ensures.some c.noted.ensures.none last
          c.loop-state.invariant.gains c.in_ok-add.ensures.free c.in_ok-add.ensures.stopped;
    }
