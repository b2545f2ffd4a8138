use Rattle.std.proofs.Common.{◌≡◌, ℕ, ◌<◌, List, ◌++◌, length, get_or, ap, ◌∙◌, subst, arith, length-append}
use Rattle.std.proofs.lemmas.List.{get_or_append_left, get_or_read}
use Rattle.kb_trie.specs.Adding.{Adds}
use Rattle.kb_trie.specs.Children.{IsChildOfOne}
use Rattle.kb_trie.specs.Edges.{words_of}
use Rattle.kb_trie.proofs.Below.{level_more, level_none}
use Rattle.kb_trie.proofs.automaton.Automaton.add_level.Goals as goal

-- what is read at a place of the level was there before
read_before : (old now more : List ℕ) (place value : ℕ) → now ≡ old ++ more → place < length old → value ≡ get_or now place value
    → value ≡ get_or old place 0
read_before old now more place value whole within read =
    get_or_read now place value (omega (arith, ap length whole, length-append old more)) read 0
    ∙ ap (λ (l : List ℕ). get_or l place 0) whole ∙ get_or_append_left old more 0 place within

pub loop-place-init : goal.loop-place-init
loop-place-init c = level_none (words_of c.args.self.now.edges.keys) c.args.states.now.items c.args.start c.args.states.now.items

pub add_all_children-requires-clause-parent : goal.add_all_children-requires-clause-parent
add_all_children-requires-clause-parent c =
    let old : List ℕ = c.args.states.now.items in
    let place : ℕ = c.loop-place.place in
    let adds = c.loop-place.invariant in
    let within : place < length old = omega (arith, c.requires.end) in
    let is : c.index-parent.result.now ≡ get_or old place 0 =
    read_before old c.loop-place.states.items adds.more place c.index-parent.result.now adds.whole within c.index-parent.ensures in
    omega (arith, is, c.requires.states place 0 within)

pub loop-place-preserved : goal.loop-place-preserved
loop-place-preserved c =
    let old : List ℕ = c.args.states.now.items in
    let place : ℕ = c.loop-place.place in
    let adds = c.loop-place.invariant in
    let within : place < length old = omega (arith, c.requires.end) in
    let is : c.index-parent.result.now ≡ get_or old place 0 =
    read_before old c.loop-place.states.items adds.more place c.index-parent.result.now adds.whole within c.index-parent.ensures in
    level_more (words_of c.args.self.now.edges.keys) old c.args.start place c.index-parent.result.now old c.loop-place.states.items
    c.add_all_children.new.states.items (omega arith) is adds c.in_ok-add_all_children.ensures

pub returns : goal.returns
returns c =
    let done : c.loop-place.place ≡ c.args.end = omega (arith, c.requires.start) in
    let A : ℕ → Type 0 = λ n. Adds (IsChildOfOne (words_of c.args.self.now.edges.keys) c.args.states.now.items c.args.start n) c.args.states.now.items c.loop-place.states.items in
    subst A done c.loop-place.invariant
