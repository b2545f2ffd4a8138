use Rattle.std.proofs.Common.{◌≡◌, ℕ, ◌+◌, ◌<◌, List, [], get_or, take, length, sym, ap, ◌∙◌, subst, arith}
use Rattle.std.proofs.lemmas.List.{get_or_read}
use Rattle.kb_word.specs.Words.{Pair}
use Rattle.kb_trie.proofs.Longest.{longest_nil}
use Rattle.kb_index.specs.Automata.{StandsFor}
use Rattle.kb_index.specs.Lefts.{left_at}
use Rattle.kb_overlap.proofs.Prefixed.{prefix_none, prefix_more, prefix_all}
use Rattle.kb_overlap.proofs.Suffixed.{have_lefts, read_more, stands_step}
use Rattle.kb_overlap.proofs.prefixes.Prefixes.add_contained.Goals as goal

pub loop-place-init : goal.loop-place-init
loop-place-init c =
    let prefixes = c.args.self.now in
    let known = c.requires.prefixes.states in
    record {
      stands = record { within = known.are.some; longest = longest_nil prefixes.automaton.now.words known.are };
      gains = prefix_none prefixes.rules.now c.args.index c.letters-letters.result.now c.args.found.now.items;
    }

pub loop-place-preserved : goal.loop-place-preserved
loop-place-preserved c =
    let words : List (List ℕ) = c.args.self.now.automaton.now.words in
    let known = c.requires.prefixes.states in
    let letters : List ℕ = c.letters-letters.result.now in
    let i : ℕ = c.loop-place.place in
    let within : i < length letters = omega (arith, c.loop-place-test.true) in
    let x : ℕ = c.number.result in
    let read : x ≡ get_or letters i 0 =
    c.number.ensures ∙ get_or_read letters i c.index-letters-place.result within c.index-letters-place.is 0 in
    let next : ℕ = c.step-state.result in
    let S : List ℕ → Type 0 = λ w. StandsFor words w next in
    let stands : S (take (i + 1) letters) =
    subst S (read_more letters i x within read)
    (stands_step known (take i letters) x c.loop-place.state next c.loop-place.invariant.stands c.step-state.ensures) in
    record {
      stands = stands;
      gains =
          prefix_more known c.args.index letters i next c.args.found.now.items c.loop-place.found.items c.add_endings.new.found.items stands
          c.loop-place.invariant.gains c.in_ok-add_endings.ensures;
    }

pub returns : goal.returns
returns c =
    let rules : List Pair = c.args.self.now.rules.now in
    let letters : List ℕ = c.letters-letters.result.now in
    let at = get_or_read rules c.args.index c.index-self-index.result c.requires.index c.index-self-index.is ([], []) in
    let same : letters ≡ left_at rules c.args.index =
    c.letters-letters.ensures.letters ∙ c.left.ensures ∙ ap (λ (rule : Pair). rule.0) (sym c.index-self-index.is ∙ at) in
    prefix_all rules (have_lefts c.requires.prefixes.states) c.args.index c.requires.index letters c.loop-place.place c.args.found.now.items
    c.loop-place.found.items same (omega (arith, c.loop-place-test.false, c.loop-place.auto.place-end)) c.loop-place.invariant.gains
