use Rattle.std.proofs.Common.{◌≡◌, ℕ, Bool, List, map, sym, ap, ap₂, ◌∙◌, subst}
use Rattle.std.specs.List.{All}
use Rattle.kb_fsa.specs.declared.alphabet.Alphabet.TheVariants.{Pair}
use Rattle.kb_fsa.specs.Table.{Table, Moves, IsTable}
use Rattle.kb_fsa.specs.Language.{Automaton, IsAutomaton, generators}
use Rattle.kb_compose.specs.Along.{AreLetters, twice, identity_on}
use Rattle.kb_compose.proofs.Identities.{rows_letters, pairs_table, identity_automaton}
use Rattle.kb_compose.proofs.identity.identity.Goals as goal

-- the table of these parts is that of the identity
table_is : (acceptor : Automaton) (table : Table) (k initial : ℕ) (rows pairs : List Moves) (accepting : List Bool) → table ≡ acceptor.table
    → k ≡ generators acceptor.alphabet → initial ≡ table.initial → rows ≡ table.rows → pairs ≡ map (map (twice k)) rows
    → accepting ≡ table.accepting
    → (let made : Table = record { initial = initial; rows = pairs; accepting = accepting } in made ≡ (identity_on acceptor).table)
table_is acceptor table k initial rows pairs accepting same number first each twice_each last =
    let n = generators acceptor.alphabet in
    let rows_are : pairs ≡ map (map (twice n)) acceptor.table.rows =
    twice_each ∙ ap₂ (λ m r. map (map (twice m)) r) number (each ∙ ap (λ (t : Table). t.rows) same) in
    ap (λ i. record { initial = i; rows = pairs; accepting = accepting }) (first ∙ ap (λ (t : Table). t.initial) same)
    ∙ ap (λ r. record { initial = acceptor.table.initial; rows = r; accepting = accepting }) rows_are
    ∙ ap (λ a. record { initial = acceptor.table.initial; rows = map (map (twice n)) acceptor.table.rows; accepting = a })
    (last ∙ ap (λ (t : Table). t.accepting) same)

pub rows_of_pairs-requires : goal.rows_of_pairs-requires
rows_of_pairs-requires c =
    let acceptor = c.args.acceptor.now in
    let m = c.requires.0 in
    let number : c.generators-n.result ≡ m = c.generators-n.ensures ∙ ap generators (c.alphabet.ensures.alphabet ∙ c.requires.1) in
    let rows : c.rows.result.now ≡ acceptor.table.rows = c.rows.ensures.rows ∙ ap (λ (t : Table). t.rows) c.table-table.ensures.table in
    let P : ℕ → Type 0 = λ k. All (AreLetters k) c.rows.result.now in
    let Q : List Moves → Type 0 = λ r. All (AreLetters m) r in
    subst P (sym number) (subst Q (sym rows) (rows_letters acceptor m c.requires.1 c.alphabet.ensures.automaton))

pub new-requires : goal.new-requires
new-requires c =
    let acceptor = c.args.acceptor.now in
    let same = table_is acceptor c.table-table.result.now c.generators-n.result c.initial.result c.rows.result.now c.in_ok-rows.rows
    c.in_ok-accepting.accepting.items c.table-table.ensures.table (c.generators-n.ensures ∙ ap generators c.alphabet.ensures.alphabet)
    c.initial.ensures.initial c.rows.ensures.rows c.in_ok-rows.ensures (c.in_ok-accepting.ensures.items ∙ c.accepting.ensures.accepting) in
    subst IsTable (sym same) (pairs_table acceptor c.requires.0 c.requires.1 c.alphabet.ensures.automaton)

pub new-requires-2 : goal.new-requires-2
new-requires-2 c =
    let acceptor = c.args.acceptor.now in
    let number = c.generators-n.ensures ∙ ap generators c.alphabet.ensures.alphabet in
    let same = table_is acceptor c.table-table.result.now c.generators-n.result c.initial.result c.rows.result.now c.in_ok-rows.rows
    c.in_ok-accepting.accepting.items c.table-table.ensures.table number
    c.initial.ensures.initial c.rows.ensures.rows c.in_ok-rows.ensures (c.in_ok-accepting.ensures.items ∙ c.accepting.ensures.accepting) in
    let whole = ap (λ (k : ℕ). record { alphabet = Pair k; table = c.new.result }) number
    ∙ ap (λ (t : Table). record { alphabet = Pair (generators acceptor.alphabet); table = t }) (c.new.ensures ∙ same) in
    subst IsAutomaton (sym whole) (identity_automaton acceptor c.requires.0 c.requires.1 c.alphabet.ensures.automaton)
