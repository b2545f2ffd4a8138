use Rattle.std.proofs.Common.{◌≡◌, ℕ, Bool, List, map, sym, ap, ◌∙◌, subst}
use Rattle.std.specs.List.{filter_map}
use Rattle.kb_fsa.specs.declared.alphabet.Alphabet.TheVariants.{Plain}
use Rattle.kb_fsa.specs.Table.{Moves, Table}
use Rattle.kb_fsa.specs.Language.{Automaton, generators}
use Rattle.kb_fsadet.specs.Nondeterministic.{Nondeterministic, IsNondeterministic}
use Rattle.kb_fsadet.specs.FirstWords.{first_words, where_some, by_first, AreEnds, IsFirstWords}
use Rattle.kb_fsadet.proofs.Projections.{are_first_words, words_automaton, symbols_of_pairs, texts_of_pairs}
use Rattle.kb_fsadet.proofs.first_words.automaton_of_first_words.Goals as goal

-- the parts make the automaton of first words
built : (pairs : Automaton) (count : ℕ) (table : Table) (initial : List ℕ) (table_rows rows : List Moves) (marks : List Bool)
    → count ≡ generators pairs.alphabet → table ≡ pairs.table → initial ≡ where_some table.initial → table_rows ≡ table.rows
    → rows ≡ map (filter_map (by_first count)) table_rows
    → record { alphabet = Plain count; initial = initial; rows = rows; accepting = marks } ≡ first_words (generators pairs.alphabet) pairs.table marks
built pairs count table initial table_rows rows marks same_count same_table initial_is table_rows_are rows_are =
    let rows_by : rows ≡ map (filter_map (by_first (generators pairs.alphabet))) pairs.table.rows =
    rows_are ∙ ap (λ k. map (filter_map (by_first k)) table_rows) same_count
    ∙ ap (map (filter_map (by_first (generators pairs.alphabet)))) (table_rows_are ∙ ap (λ (t : Table). t.rows) same_table) in
    let initial_by : initial ≡ where_some pairs.table.initial = initial_is ∙ ap (λ (t : Table). where_some t.initial) same_table in
    let Built = λ (k : ℕ) (i : List ℕ) (r : List Moves).
    let nfa : Nondeterministic = record { alphabet = Plain k; initial = i; rows = r; accepting = marks } in nfa in
    ap (λ k. Built k initial rows) same_count ∙ ap (λ i. Built (generators pairs.alphabet) i rows) initial_by
    ∙ ap (λ r. Built (generators pairs.alphabet) (where_some pairs.table.initial) r) rows_by

ends_of : (pairs : Automaton) (count : ℕ) (table : Table) (marks : List Bool) → count ≡ generators pairs.alphabet → table ≡ pairs.table
    → AreEnds count table marks → AreEnds (generators pairs.alphabet) pairs.table marks
ends_of pairs count table marks same_count same_table ends =
    let P : ℕ → Type 0 = λ k. AreEnds k table marks in
    let Q : Table → Type 0 = λ t. AreEnds (generators pairs.alphabet) t marks in
    subst Q same_table (subst P same_count ends)

pub new-requires : goal.new-requires
new-requires c =
    let pairs = c.args.pairs.now in
    let k = c.requires.0 in
    let is = c.alphabet.ensures.automaton in
    let marks = c.in_ok-accepting.accepting.items in
    let same_count : c.generators-generators.result ≡ generators pairs.alphabet =
    c.generators-generators.ensures ∙ ap generators c.alphabet.ensures.alphabet in
    let ends = ends_of pairs c.generators-generators.result c.table-table.result.now marks same_count c.table-table.ensures.table c.in_ok-accepting.ensures in
    let whole = built pairs c.generators-generators.result c.table-table.result.now c.in_ok-initial.initial.items c.rows.result.now
    c.in_ok-rows.rows.items marks same_count c.table-table.ensures.table c.in_ok-initial.ensures c.rows.ensures.rows c.in_ok-rows.ensures in
    subst IsNondeterministic (sym whole) (words_automaton pairs is.table (symbols_of_pairs pairs k c.requires.1 is) (texts_of_pairs pairs k c.requires.1 is)
    marks ends is.generators)

pub returns-clause-reads : goal.returns-clause-reads
returns-clause-reads c =
    let pairs = c.args.pairs.now in
    let k = c.requires.0 in
    let is = c.alphabet.ensures.automaton in
    let marks = c.in_ok-accepting.accepting.items in
    let same_count : c.generators-generators.result ≡ generators pairs.alphabet =
    c.generators-generators.ensures ∙ ap generators c.alphabet.ensures.alphabet in
    let ends = ends_of pairs c.generators-generators.result c.table-table.result.now marks same_count c.table-table.ensures.table c.in_ok-accepting.ensures in
    let whole = built pairs c.generators-generators.result c.table-table.result.now c.in_ok-initial.initial.items c.rows.result.now
    c.in_ok-rows.rows.items marks same_count c.table-table.ensures.table c.in_ok-initial.ensures c.rows.ensures.rows c.in_ok-rows.ensures in
    subst (IsFirstWords pairs) (sym (c.new.ensures ∙ whole)) (are_first_words pairs is.table (symbols_of_pairs pairs k c.requires.1 is)
    (texts_of_pairs pairs k c.requires.1 is) marks ends)
