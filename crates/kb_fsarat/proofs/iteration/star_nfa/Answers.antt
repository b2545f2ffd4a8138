use Rattle.std.proofs.Common.{◌≡◌, ◌+◌, ◌<◌, ◌^◌, ◌∷◌, length, sym, ap, ◌∙◌, subst, arith, rules}
use Rattle.kb_fsa.specs.Table.{Table}
use Rattle.kb_fsadet.specs.Nondeterministic.{Nondeterministic}
use Rattle.kb_fsarat.specs.Chains.{start_of}
use Rattle.kb_fsarat.specs.Reversal.{only}
use Rattle.kb_fsarat.proofs.Repeating.{IsRepeating, parts_repeating, repeated, repeating_nondeterministic}
use Rattle.kb_fsarat.proofs.iteration.star_nfa.Goals as goal
use Rattle.kb_fsarat.proofs.iteration.star_nfa.Goals.{After-alphabet}

fits : (c : After-alphabet) → c.in-Some.mark ≡ length c.table-table.result.now.rows + 1
fits c = let count = c.len.ensures.count in search rules

-- the parts are those of the automaton that starts again
repeats : (c : After-alphabet) → IsRepeating c.args.one.now (record {
  alphabet = c.alphabet.result;
  initial = c.in_ok-initial.initial.items;
  rows = c.in_ok-rows.rows.items;
  accepting = c.in_ok-accepting.accepting.items;
}) c.in-Some.mark
repeats c =
    let mark = c.in-Some.mark in
    parts_repeating c.args.one.now c.table-table.result.now c.as_slice.result.now _ mark c.table-table.ensures.table (fits c)
    c.alphabet.ensures.alphabet
    (c.as_slice.ensures.value ∙ c.in_ok-initial.ensures ∙ ap (λ initial. mark ∷ start_of initial) c.initial.ensures.initial)
    (sym c.as_slice.ensures.value) c.in_ok-rows.ensures
    (c.in_ok-accepting.ensures ∙ ap (only mark) (c.len-2.ensures ∙ c.in_ok-rows.rows.ok.0))

pub new-requires : goal.new-requires
new-requires c =
    let own = ap (λ (table : Table). length table.rows) c.table-table.ensures.table in
    let mark = fits c in
    let small : c.in-Some.mark < 2 ^ 32 = search rules in
    repeating_nondeterministic c.args.one.now _ c.in-Some.mark c.table-table.ensures.automaton (repeats c) c.requires.0 c.requires.1 (omega arith)

pub returns-clause-sets : goal.returns-clause-sets
returns-clause-sets c =
    let P : Nondeterministic → Type 0 = λ nfa. IsRepeating c.args.one.now nfa c.in-Some.mark in
    repeated c.args.one.now c.new.result c.in-Some.mark c.table-table.ensures.automaton
    (subst P (sym c.new.ensures) (repeats (goal.at.returns-clause-sets c).After-alphabet)) c.requires.0 c.requires.1
