use Rattle.std.proofs.Common.{◌≡◌, ℕ, List, length, get_or, ap, subst, arith, length-append}
use Rattle.std.proofs.lemmas.List.Elements.{Contains-get_or}
use Rattle.kb_trie.specs.Edges.{words_of}
use Rattle.kb_trie.proofs.Below.{IsDescending, deep_below, descended, descending_ends, descending_first, descending_more}
use Rattle.kb_trie.proofs.automaton.Automaton.add_below.Goals as goal

pub loop-level-init : goal.loop-level-init
loop-level-init c =
    record {
      start = omega arith;
      walk = descending_first (words_of c.args.self.now.edges.keys) c.args.states.now.items c.requires.states;
      deep = λ place from within. omega arith;
    }

pub add_level-requires-clause-states : goal.add_level-requires-clause-states
add_level-requires-clause-states c k d within =
    let states : List ℕ = c.loop-level.states.items in
    (c.loop-level.invariant.walk.each (get_or states k d) (Contains-get_or states k d within)).within

pub loop-level-preserved : goal.loop-level-preserved
loop-level-preserved c =
    let words : List (List ℕ) = words_of c.args.self.now.edges.keys in
    let roots : List ℕ = c.args.states.now.items in
    let states : List ℕ = c.loop-level.states.items in
    let states' : List ℕ = c.add_level.new.states.items in
    let start : ℕ = c.loop-level.start in
    let end : ℕ = c.len-end.result in
    let before = c.loop-level.invariant in
    let adds = c.in_ok-add_level.ensures in
    record {
      start = omega (arith, c.len-end.ensures, ap length adds.whole, length-append states adds.more);
      walk = descending_more words roots start end states states' (omega (arith, c.len-end.ensures)) before.walk adds;
      deep = deep_below words c.loop-level.level start end states states' (omega (arith, c.len-end.ensures)) before.deep adds;
    }

pub returns-then-start-end : goal.returns-then-start-end
returns-then-start-end c =
    let words : List (List ℕ) = words_of c.args.self.now.edges.keys in
    let roots : List ℕ = c.args.states.now.items in
    let states : List ℕ = c.loop-level.states.items in
    let same : c.loop-level.start ≡ length states = omega (arith, c.len-end.ensures) in
    let P : ℕ → Type 0 = λ n. IsDescending (words_of c.args.self.now.edges.keys) c.args.states.now.items n c.loop-level.states.items in
    descended words c.requires.automaton.states.are roots states (subst P same c.loop-level.invariant.walk)

pub returns : goal.returns
returns c =
    let words : List (List ℕ) = words_of c.args.self.now.edges.keys in
    let before = c.loop-level.invariant in
    descending_ends words c.requires.automaton.states.are c.args.states.now.items c.loop-level.level c.loop-level.start c.loop-level.states.items
    (omega (arith, c.count-level-end.ensures.count)) before.start before.deep before.walk
