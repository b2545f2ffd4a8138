use Rattle.std.proofs.Common.{◌≡◌, ℕ, eqb, false, ◌+◌, ◌-◌, ◌<◌, ◌≤◌, List, [], drop, length, sym, ap, ◌∙◌, subst, inl, inr, arith}
use Rattle.std.proofs.lemmas.Bool.{cases_lt, eqb-true, eqb-false}
use Rattle.std.proofs.lemmas.List.{get_or_read, nil_from_length, take_rest}
use Rattle.kb_word.specs.Words.{Pair, OneOf}
use Rattle.kb_word.specs.Rewriting.{IsIrreducible}
use Rattle.kb_index.specs.Automata.{StandsFor}
use Rattle.kb_index.specs.Lefts.{left_at}
use Rattle.kb_overlap.proofs.Sticking.{left_some}
use Rattle.kb_overlap.proofs.Suffixed.{have_lefts, left_short}
use Rattle.kb_overlap.proofs.Sweeping.{sweeping_first, sweeping_more, sweeping_all, all_composite, level_bound}
use Rattle.kb_overlap.proofs.prefixes.Prefixes.add_proper.Goals as goal

not_empty : (n : ℕ) → eqb n 0 ≡ false → 0 < n
not_empty n some =
    elim (cases_lt 0 n) [
      | inl above ↦ above
      | inr none ↦ let zero_is : n ≡ 0 = omega arith in absurd (eqb-false n 0 some zero_is)
    ]

pub slice_bounds-state_after-count : goal.slice_bounds-state_after-count
slice_bounds-state_after-count c =
    let rules : List Pair = c.args.self.now.rules.now in
    let at = get_or_read rules c.args.index c.index-self-index.result c.requires.index c.index-self-index.is ([], []) in
    let same : c.letters.result.now ≡ left_at rules c.args.index =
    c.letters.ensures.letters ∙ c.left-left.ensures ∙ ap (λ (rule : Pair). rule.0) (sym c.index-self-index.is ∙ at) in
    omega (arith, ap length same, left_some rules (have_lefts c.requires.prefixes.states) c.args.index c.requires.index)

pub slice_bounds-state_after-start : goal.slice_bounds-state_after-start
slice_bounds-state_after-start c =
    let rules : List Pair = c.args.self.now.rules.now in
    let at = get_or_read rules c.args.index c.index-self-index.result c.requires.index c.index-self-index.is ([], []) in
    let same : c.letters.result.now ≡ left_at rules c.args.index =
    c.letters.ensures.letters ∙ c.left-left.ensures ∙ ap (λ (rule : Pair). rule.0) (sym c.index-self-index.is ∙ at) in
    let some : 1 ≤ length c.letters.result.now =
    omega (arith, ap length same, left_some rules (have_lefts c.requires.prefixes.states) c.args.index c.requires.index) in
    some

pub returns-in_default : goal.returns-in_default
returns-in_default c =
    let rules : List Pair = c.args.self.now.rules.now in
    let letters : List ℕ = c.letters.result.now in
    let at = get_or_read rules c.args.index c.index-self-index.result c.requires.index c.index-self-index.is ([], []) in
    let same : letters ≡ left_at rules c.args.index =
    c.letters.ensures.letters ∙ c.left-left.ensures ∙ ap (λ (rule : Pair). rule.0) (sym c.index-self-index.is ∙ at) in
    let P : List ℕ → Type 0 = λ w. ¬ IsIrreducible (OneOf rules) w in
    all_composite c.requires.prefixes.states c.args.index c.args.found.now.items
    (subst P (take_rest letters 1 ∙ ap (drop 1) same) c.in_default.ensures.none)

pub loop-left-init : goal.loop-left-init
loop-left-init c =
    let prefixes = c.args.self.now in
    let rules : List Pair = prefixes.rules.now in
    let words : List (List ℕ) = prefixes.automaton.now.words in
    let letters : List ℕ = c.letters.result.now in
    let at = get_or_read rules c.args.index c.index-self-index.result c.requires.index c.index-self-index.is ([], []) in
    let same : letters ≡ left_at rules c.args.index =
    c.letters.ensures.letters ∙ c.left-left.ensures ∙ ap (λ (rule : Pair). rule.0) (sym c.index-self-index.is ∙ at) in
    let tail = take_rest letters 1 ∙ ap (drop 1) same in
    let S : List ℕ → Type 0 = λ w. StandsFor words w c.in-Some.state in
    let I : List ℕ → Type 0 = λ w. IsIrreducible (OneOf rules) w in
    sweeping_first rules words c.args.index c.in_ok-level.level.items c.args.found.now.items
    (c.in_ok-level.ensures (drop 1 (left_at rules c.args.index)) (subst S tail c.in-Some.ensures.stands) (subst I tail c.in-Some.ensures.irreducible))

pub overflow_add-read : goal.overflow_add-read
overflow_add-read c =
    let rules : List Pair = c.args.self.now.rules.now in
    let known = c.requires.prefixes.states in
    let at = get_or_read rules c.args.index c.index-self-index.result c.requires.index c.index-self-index.is ([], []) in
    let same : c.left-left.result.now ≡ left_at rules c.args.index = c.left-left.ensures ∙ ap (λ (rule : Pair). rule.0) (sym c.index-self-index.is ∙ at) in
    let some : 0 < length c.loop-left.level.items =
    omega (arith, not_empty c.loop-left.level.len (sym c.loop-left-test.ensures), c.loop-left.level.ok.0) in
    let bound = level_bound known (drop 1 (left_at rules c.args.index)) c.loop-left.count c.loop-left.level.items c.loop-left.invariant.are some in
    let short = left_short known c.args.index c.requires.index in
    omega (arith, known.few, c.len.ensures, ap length same)

pub overflow_add-count : goal.overflow_add-count
overflow_add-count c =
    let rules : List Pair = c.args.self.now.rules.now in
    let known = c.requires.prefixes.states in
    let some : 0 < length c.loop-left.level.items =
    omega (arith, not_empty c.loop-left.level.len (sym c.loop-left-test.ensures), c.loop-left.level.ok.0) in
    let bound = level_bound known (drop 1 (left_at rules c.args.index)) c.loop-left.count c.loop-left.level.items c.loop-left.invariant.are some in
    omega (arith, known.few)

pub loop-left-smaller : goal.loop-left-smaller
loop-left-smaller c =
    let rules : List Pair = c.args.self.now.rules.now in
    let words : List (List ℕ) = c.args.self.now.automaton.now.words in
    let count : ℕ = c.loop-left.count in
    let some : 0 < length c.loop-left.level.items =
    omega (arith, not_empty c.loop-left.level.len (sym c.loop-left-test.ensures), c.loop-left.level.ok.0) in
    let bound = level_bound c.requires.prefixes.states (drop 1 (left_at rules c.args.index)) count c.loop-left.level.items c.loop-left.invariant.are some in
    let less : length words - (count + 1) < length words - count = omega arith in
    less

pub loop-left-preserved : goal.loop-left-preserved
loop-left-preserved c =
    let prefixes = c.args.self.now in
    sweeping_more prefixes.rules.now prefixes.automaton.now.words c.args.index c.loop-left.count c.loop-left.level.items
    c.in_ok-level-2.level.items c.args.found.now.items c.loop-left.found.items c.next_level.new.found.items c.loop-left.invariant
    c.in_ok-level-2.ensures.next c.in_ok-level-2.ensures.found

pub returns : goal.returns
returns c =
    let zero_is : c.loop-left.level.len ≡ 0 = eqb-true c.loop-left.level.len 0 (sym c.loop-left-test.ensures) in
    let none : c.loop-left.level.items ≡ [] = nil_from_length c.loop-left.level.items (sym c.loop-left.level.ok.0 ∙ zero_is) in
    sweeping_all c.requires.prefixes.states c.args.index c.loop-left.count c.loop-left.level.items c.args.found.now.items c.loop-left.found.items
    c.requires.index none c.loop-left.invariant
