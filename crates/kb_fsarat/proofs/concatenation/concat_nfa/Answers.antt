use Rattle.std.proofs.Common.{◌≡◌, ◌+◌, ◌<◌, ◌^◌, ◌++◌, List, false, length, replicate, sym, ap, ◌∙◌, subst, arith, rules}
use Rattle.kb_fsa.specs.Table.{Moves, Table}
use Rattle.kb_fsadet.specs.Nondeterministic.{Nondeterministic}
use Rattle.kb_fsarat.specs.Chains.{start_after}
use Rattle.kb_fsarat.proofs.Chaining.{IsChained, parts_chained, chained_nondeterministic, among_after, accepts_chained}
use Rattle.kb_fsarat.proofs.concatenation.concat_nfa.Goals as goal
use Rattle.kb_fsarat.proofs.concatenation.concat_nfa.Goals.{After-alphabet}

-- the parts are those of the automaton of the states of both
chain : (c : After-alphabet) → IsChained c.args.one.now c.args.two.now (record {
  alphabet = c.alphabet.result;
  initial = c.in_ok-initial.initial.items;
  rows = c.in_ok-rows.rows.items;
  accepting = c.in_ok-accepting.accepting.items;
})
chain c =
    let first = c.table-first.result.now in
    let second = c.table-second.result.now in
    parts_chained c.args.one.now c.args.two.now first second c.as_slice-starts.result.now _ c.table-first.ensures.table c.table-second.ensures.table
    (c.as_slice-starts.ensures.value ∙ c.in_ok-start.ensures
    ∙ ap (λ count. start_after count c.initial.result) c.len-3.ensures.count
    ∙ ap (start_after (length first.rows)) c.initial.ensures.initial)
    c.alphabet.ensures.alphabet c.in_ok-initial.ensures c.in_ok-rows.ensures
    (c.in_ok-accepting.ensures
    ∙ ap (λ count. replicate count false ++ c.accepting.result.now) c.len-4.ensures
    ∙ ap (λ (rows : List Moves). replicate (length rows) false ++ c.accepting.result.now) c.rows.ensures.rows
    ∙ ap (λ answers. replicate (length first.rows) false ++ answers) c.accepting.ensures.accepting)

result_chained : (c : After-alphabet) (nfa : Nondeterministic) → nfa ≡ record {
  alphabet = c.alphabet.result;
  initial = c.in_ok-initial.initial.items;
  rows = c.in_ok-rows.rows.items;
  accepting = c.in_ok-accepting.accepting.items;
} → IsChained c.args.one.now c.args.two.now nfa
result_chained c nfa is =
    let P : Nondeterministic → Type 0 = λ nfa. IsChained c.args.one.now c.args.two.now nfa in subst P (sym is) (chain c)

pub new-requires : goal.new-requires
new-requires c =
    chained_nondeterministic c.args.one.now c.args.two.now _ c.table-first.ensures.automaton c.table-second.ensures.automaton (chain c)
    c.requires.plain.0 c.requires.plain.1 c.requires.alphabets
    (let fits : length c.table-first.result.now.rows + length c.table-second.result.now.rows < 2 ^ 32 = search rules in
    let first = ap (λ (table : Table). length table.rows) c.table-first.ensures.table in
    let second = ap (λ (table : Table). length table.rows) c.table-second.ensures.table in
    omega arith)

pub returns-clause-sets : goal.returns-clause-sets
returns-clause-sets c =
    among_after c.args.one.now c.args.two.now c.new.result c.table-first.ensures.automaton c.table-second.ensures.automaton
    (result_chained (goal.at.returns-clause-sets c).After-alphabet c.new.result c.new.ensures)

pub returns-clause-language : goal.returns-clause-language
returns-clause-language c =
    accepts_chained c.args.one.now c.args.two.now c.new.result c.table-first.ensures.automaton c.table-second.ensures.automaton
    (result_chained (goal.at.returns-clause-language c).After-alphabet c.new.result c.new.ensures)
