use Rattle.std.proofs.Common.{◌≡◌, ℕ, ◌++◌, List, Result, Ok, Err, OnOk, eqb, length, get_or, take, refl, ◌∙◌, subst, arith}
use Rattle.std.specs.List.{Contains, dedup, filter}
use Rattle.std.proofs.lemmas.List.{get_or_default}
use Rattle.std.proofs.lemmas.List.Elements.{Contains-get_or}
use Rattle.std.proofs.lemmas.List.Filters.{dedup_is}
use Rattle.std.proofs.lemmas.List.Kept.{Contains-from_dedup}
use Rattle.std.proofs.lemmas.List.Sorted.{Contains-permutation, IsPermutation-sym}
use Rattle.kb_trie.specs.Adding.{AddsAscending}
use Rattle.kb_trie.specs.Edges.{words_of}
use Rattle.kb_trie.specs.Ends.{keeps}
use Rattle.kb_trie.specs.Factors.{IsNumberedOver}
use Rattle.kb_trie.proofs.Factors.{added_longer}
use Rattle.kb_trie.proofs.automaton.Automaton.add_longer.Goals as goal

on_ok : {T E : Type 0} {P Q : Type 0} (r : Result T E) → (P → Q) → OnOk r P → OnOk r Q
on_ok (Ok x) f p = f p
on_ok (Err e) f p = p

pub add_below-requires-clause-states : goal.add_below-requires-clause-states
add_below-requires-clause-states c k d within =
    let free : List ℕ = c.find_all.new.self.free.items in
    let is = c.in_ok-find_all.ensures.free_each (get_or free k 0) (record { place = k; within = within; is = refl }) in
    omega (arith, is.within, get_or_default free k d 0 within)

pub add_numbered-requires : goal.add_numbered-requires
add_numbered-requires c k d within =
    let below : List ℕ = c.add_below.new.states.items in
    let sorted : List ℕ = c.sort_unstable.new.self.items in
    let single : List ℕ = c.deref-2.result.now in
    let state : ℕ = get_or single k d in
    let single_is : c.deref-2.result.now ≡ dedup eqb c.sort_unstable.new.self.items =
    c.deref-2.ensures.value ∙ dedup_is eqb sorted c.dedup.new.self.items c.dedup.ensures.filtered in
    let P : List ℕ → Type 0 = λ l. Contains l (get_or c.deref-2.result.now k d) in
    let there : Contains sorted state =
    Contains-from_dedup eqb sorted state (subst P single_is (Contains-get_or single k d within)) in
    let is =
    c.in_ok-add_below.ensures.each state
    (Contains-permutation sorted below state (IsPermutation-sym below sorted c.sort_unstable.ensures.permutation) there) in
    omega (arith, is.within, c.requires.automaton.ends.number_room)

pub returns : goal.returns
returns c =
    let is = c.requires.automaton in
    let numbers : List ℕ = c.args.self.now.ends.numbers.items in
    let sorted : List ℕ = c.sort_unstable.new.self.items in
    let single_is : c.deref-2.result.now ≡ dedup eqb c.sort_unstable.new.self.items =
    c.deref-2.ensures.value ∙ dedup_is eqb sorted c.dedup.new.self.items c.dedup.ensures.filtered in
    let go : (c.add_numbered.new.found.items ≡ c.args.found.now.items ++ filter (keeps c.args.self.now.ends.numbers.items) c.deref-2.result.now)
    → AddsAscending
    (IsNumberedOver (words_of c.args.self.now.edges.keys) (take (length (words_of c.args.self.now.edges.keys)) c.args.self.now.ends.numbers.items) c.args.state)
    c.args.found.now.items c.add_numbered.new.found.items =
    λ added.
    added_longer (words_of c.args.self.now.edges.keys) is.states.are c.args.self.now.steps.tree.links.items numbers is.steps.links c.args.state
    c.find_all.new.self.free.items c.find_all.new.self.stopped.items c.add_below.new.states.items sorted c.deref-2.result.now c.args.found.now.items
    c.add_numbered.new.found.items c.requires.state c.in_ok-find_all.ensures c.in_ok-add_below.ensures c.sort_unstable.ensures.permutation
    c.sort_unstable.ensures.sorted single_is added in
    on_ok c.add_numbered.result go c.add_numbered.ensures
