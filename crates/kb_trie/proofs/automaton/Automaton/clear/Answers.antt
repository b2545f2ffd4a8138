use Rattle.std.proofs.Common.{◌≡◌, ℕ, ◌<◌, List, length, get_or, take, refl, sym, ap, ◌∙◌, subst, arith}
use Rattle.std.proofs.lemmas.List.{get_or_read}
use Rattle.kb_trie.specs.Edges.{words_of}
use Rattle.kb_trie.proofs.Ending.{Numbers, ends_changed, ends_clear, numbers_walk}
use Rattle.kb_trie.proofs.Numbers.{take_set}
use Rattle.kb_trie.proofs.automaton.Automaton.clear.Goals as goal

pub change-requires-clause-states : goal.change-requires-clause-states
change-requires-clause-states c =
    let free : List ℕ = c.find_free.new.self.free.items in
    let P : List ℕ → Type 0 = λ list. (i : ℕ) → i < length list → get_or list i 0 < length c.args.self.now.ends.ends.items in
    let each : P free = λ i within.
    let is = c.in_ok-find_free.ensures.free_each (get_or free i 0) (record { place = i; within = within; is = refl }) in
    omega (arith, is.within, c.requires.automaton.ends.end_room) in
    subst P (sym c.deref-2.ensures.value) each

pub returns-clause-automaton : goal.returns-clause-automaton
returns-clause-automaton c =
    let is = c.requires.automaton in
    let words : List (List ℕ) = words_of c.args.self.now.edges.keys in
    let links : List ℕ = c.args.self.now.steps.tree.links.items in
    let numbers : List ℕ = c.args.self.now.ends.numbers.items in
    let ends : List ℕ = c.args.self.now.ends.ends.items in
    let root : ℕ = c.args.state in
    let free : List ℕ = c.find_free.new.self.free.items in
    let stopped : List ℕ = c.find_free.new.self.stopped.items in
    let has : Numbers words links _ root free stopped =
    numbers_walk words links numbers c.deref.result.now root free stopped is.states.are is.steps.links c.requires.state is.ends.number_room
    c.deref.ensures.value c.in_ok-find_free.ensures in
    let link_is : c.index-link.result.now ≡ get_or links root 0 =
    get_or_read links root c.index-link.result.now (omega (arith, is.steps.tree.link_room, is.steps.count)) c.index-link.ensures 0 in
    let link = is.steps.links root c.requires.state in
    let read : c.index-end.result.now ≡ get_or ends c.index-link.result.now 0 =
    get_or_read ends c.index-link.result.now c.index-end.result.now (omega (arith, link.within, is.ends.end_room)) c.index-end.ensures 0 in
    let end_is : c.index-end.result.now ≡ get_or ends (get_or links root 0) 0 = read ∙ ap (λ (l : ℕ). get_or ends l 0) link_is in
    record {
      states = is.states;
      steps = is.steps;
      children = is.children;
      ends =
          ends_changed words root 0 c.index-end.result.now free c.deref-2.result.now c.args.self.now.ends c.change.new.self is.ends
          c.deref-2.ensures.value c.change.ensures.numbers c.change.ensures.count c.change.ensures.moved c.change.ensures.others
          (λ moved others state within case.
          ends_clear words links numbers ends c.change.new.self.ends.items root free stopped (omega (arith, is.ends.number_room)) has
          is.ends.each (λ s among. moved s among ∙ end_is) others state within case);
    }

pub returns-clause-ok : goal.returns-clause-ok
returns-clause-ok c =
    let words : List (List ℕ) = words_of c.args.self.now.edges.keys in
    ap (λ (ns : List ℕ). take (length words) ns) c.change.ensures.numbers
    ∙ take_set (length words) c.args.self.now.ends.numbers.items c.args.state 0 c.requires.state
