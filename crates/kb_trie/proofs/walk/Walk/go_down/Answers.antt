use Rattle.std.proofs.Common.{◌≡◌, ℕ, ◌<◌, ◌≤◌, List, length, get_or, refl, ap, ◌∙◌, subst, arith}
use Rattle.std.proofs.lemmas.List.{get_or_read}
use Rattle.kb_trie.specs.States.{word}
use Rattle.kb_trie.specs.Edges.{words_of}
use Rattle.kb_trie.specs.Walks.{Gains, IsWalking, Notes}
use Rattle.kb_trie.proofs.Walking.{deep_more, walking_more}
use Rattle.kb_trie.proofs.walk.Walk.go_down.Goals as goal

pub look-requires-clause-at : goal.look-requires-clause-at
look-requires-clause-at c =
    let free : List ℕ = c.loop-place.self.free.items in
    let place : ℕ = c.loop-place.place in
    let within : place < length free = omega (arith, c.loop-place.invariant.longer) in
    let is : c.index-at.result.now ≡ get_or free place 0 = get_or_read free place c.index-at.result.now within c.index-at.ensures 0 in
    let each = c.loop-place.invariant.walking.free_each (get_or free place 0) (record { place = place; within = within; is = refl }) in
    omega (arith, is, each.within, c.requires.count)

pub loop-place-preserved : goal.loop-place-preserved
loop-place-preserved c =
    let words : List (List ℕ) = words_of c.args.edges.now.keys in
    let links : List ℕ = c.args.tree.now.links.items in
    let notes : ℕ → ℕ → Type 0 = Notes (words_of c.args.edges.now.keys) c.args.numbers.now c.args.stop in
    let first : List ℕ = c.args.self.now.free.items in
    let free : List ℕ = c.loop-place.self.free.items in
    let stopped : List ℕ = c.loop-place.self.stopped.items in
    let free' : List ℕ = c.look.new.self.free.items in
    let stopped' : List ℕ = c.look.new.self.stopped.items in
    let place : ℕ = c.loop-place.place in
    let at : ℕ = c.index-at.result.now in
    let before = c.loop-place.invariant in
    let below : place < c.args.end = omega arith in
    let from : c.args.start ≤ place = omega arith in
    let within : place < length free = omega (arith, before.longer) in
    let is : at ≡ get_or free place 0 = get_or_read free place at within c.index-at.ensures 0 in
    let G : ℕ → Type 0 = λ n. Gains n links notes at 0 free stopped free' stopped' in
    let gains : Gains (length words) links notes at 0 free stopped free' stopped' = subst G c.requires.count c.in_ok-look.ensures in
    let at_first : at ≡ get_or first place 0 = is ∙ before.same place below in
    record {
      longer = omega (arith, before.longer, gains.longer);
      same = λ p early. gains.kept p (omega (arith, before.longer)) ∙ before.same p early;
      walking =
          walking_more words c.requires.states.are links c.requires.links notes c.args.root place at free stopped free' stopped' within is
          before.walking gains;
      deeper = λ level deep.
          let long : level ≤ length (word words at) =
          omega (arith, deep place from (omega (arith, c.requires.end)), ap (λ (s : ℕ). length (word words s)) at_first) in
          deep_more words c.requires.states.are links c.requires.links notes level c.args.end at free stopped free' stopped' long
          (before.deeper level deep) gains;
    }

pub returns-clause-walking : goal.returns-clause-walking
returns-clause-walking c =
    let done : c.loop-place.place ≡ c.args.end = omega (arith, c.requires.start) in
    let W : ℕ → Type 0 = λ n. IsWalking (words_of c.args.edges.now.keys) c.args.tree.now.links.items (Notes (words_of c.args.edges.now.keys) c.args.numbers.now c.args.stop) c.args.root n
    c.loop-place.self.free.items c.loop-place.self.stopped.items in
    subst W done c.loop-place.invariant.walking
