use Rattle.std.proofs.Common.{◌≡◌, ◌↔◌, ℕ, Bool, List, map, sym, ap, ◌∙◌, subst, rules}
use Rattle.std.specs.List.{filter_map}
use Rattle.kb_fsa.specs.declared.alphabet.Alphabet.TheVariants.{Plain, Pair}
use Rattle.kb_fsa.specs.Table.{Moves}
use Rattle.kb_fsa.specs.Language.{generators}
use Rattle.kb_fsadet.specs.Nondeterministic.{Nondeterministic, IsNondeterministic, AcceptsSomehow}
use Rattle.kb_fsadet.specs.FirstWords.{by_first}
use Rattle.kb_certificates.specs.FirstWords.{AreEnds, HasSecond, without_second}
use Rattle.kb_certificates.proofs.FirstWords.{language, words_automaton}
use Rattle.kb_certificates.proofs.first_words.first_words.Goals as goal

-- the parts make the automaton without the second words
built : (pairs : Nondeterministic) (count : ℕ) (initial : List ℕ) (rows_before rows : List Moves) (marks : List Bool)
    → count ≡ generators pairs.alphabet → initial ≡ pairs.initial → rows_before ≡ pairs.rows
    → rows ≡ map (filter_map (by_first count)) rows_before
    → record { alphabet = Plain count; initial = initial; rows = rows; accepting = marks } ≡ without_second (generators pairs.alphabet) pairs marks
built pairs count initial rows_before rows marks same_count same_initial same_rows rows_are =
    let rows_by : rows ≡ map (filter_map (by_first (generators pairs.alphabet))) pairs.rows =
    rows_are ∙ ap (λ k. map (filter_map (by_first k)) rows_before) same_count
    ∙ ap (map (filter_map (by_first (generators pairs.alphabet)))) same_rows in
    let Built = λ (k : ℕ) (i : List ℕ) (r : List Moves).
    let nfa : Nondeterministic = record { alphabet = Plain k; initial = i; rows = r; accepting = marks } in nfa in
    ap (λ k. Built k initial rows) same_count ∙ ap (λ i. Built (generators pairs.alphabet) i rows) same_initial
    ∙ ap (λ r. Built (generators pairs.alphabet) pairs.initial r) rows_by

-- an automaton of pairs reads pairs over its generators
own_pairs : (pairs : Nondeterministic) (k : ℕ) → pairs.alphabet ≡ Pair k → pairs.alphabet ≡ Pair (generators pairs.alphabet)
own_pairs pairs k pair = pair ∙ ap (λ j. Pair j) (sym (ap generators pair))

pub ends-requires : goal.ends-requires
ends-requires c =
    own_pairs c.args.pairs.now c.requires.0 c.requires.1
    ∙ ap (λ j. Pair j) (sym (c.generators-generators.ensures ∙ ap generators c.alphabet.ensures.alphabet))

pub new-requires : goal.new-requires
new-requires c =
    let pairs = c.args.pairs.now in
    let count : ℕ = c.generators-generators.result in
    let marks = c.in_ok-accepting.accepting.items in
    let same_count : count ≡ generators pairs.alphabet = c.generators-generators.ensures ∙ ap generators c.alphabet.ensures.alphabet in
    let same_initial : c.in_ok-initial.initial.items ≡ pairs.initial = search rules in
    let P : ℕ → Type 0 = λ k. AreEnds k pairs marks in
    let ends = subst P same_count c.in_ok-accepting.ensures in
    let whole = built pairs count c.in_ok-initial.initial.items c.rows.result.now c.in_ok-rows.rows.items marks same_count same_initial
    c.rows.ensures.rows c.in_ok-rows.ensures in
    subst IsNondeterministic (sym whole) (words_automaton pairs c.alphabet.ensures.automaton (own_pairs pairs c.requires.0 c.requires.1) marks ends)

pub returns-clause-language : goal.returns-clause-language
returns-clause-language c =
    let pairs = c.args.pairs.now in
    let count : ℕ = c.generators-generators.result in
    let marks = c.in_ok-accepting.accepting.items in
    let same_count : count ≡ generators pairs.alphabet = c.generators-generators.ensures ∙ ap generators c.alphabet.ensures.alphabet in
    let same_initial : c.in_ok-initial.initial.items ≡ pairs.initial = search rules in
    let P : ℕ → Type 0 = λ k. AreEnds k pairs marks in
    let ends = subst P same_count c.in_ok-accepting.ensures in
    let whole = built pairs count c.in_ok-initial.initial.items c.rows.result.now c.in_ok-rows.rows.items marks same_count same_initial
    c.rows.ensures.rows c.in_ok-rows.ensures in
    let Q : Nondeterministic → Type 0 = λ words. (word : List ℕ) → AcceptsSomehow words word ↔ HasSecond pairs word in
    subst Q (sym (c.new.ensures ∙ whole)) (language pairs c.alphabet.ensures.automaton (own_pairs pairs c.requires.0 c.requires.1) marks ends)
