use Rattle.std.proofs.Common.{◌≡◌, ◌↔◌, ◌<◌, ◌≤◌, ℕ, Bool, List, [], length, replicate, sym, ap, ◌∙◌, subst}
use Rattle.std.specs.List.{All, Contains}
use Rattle.kb_fsa.specs.Table.{Moves, Table}
use Rattle.kb_fsadet.specs.Nondeterministic.{Nondeterministic}
use Rattle.kb_fsarat.specs.Reversal.{HaveAdded, TurnsFirst, IsTurned, IsListed, only}
use Rattle.kb_fsarat.proofs.Reversing.{targets_are_states, turned_parts, turned_nondeterministic, among_before, accepts_turned}
use Rattle.kb_fsarat.proofs.reversal.reversed_nfa.Goals as goal
use Rattle.kb_fsarat.proofs.reversal.reversed_nfa.Goals.{After-alphabet}

pub reversed_rows-requires-clause-targets : goal.reversed_rows-requires-clause-targets
reversed_rows-requires-clause-targets c =
    let P : List Moves → Type 0 = λ rows. All (All (λ move. (0 < move.1) × (move.1 ≤ length rows))) rows in
    subst P (sym c.rows.ensures.rows) (targets_are_states c.table-table.result.now c.rows.ensures.table)

-- the parts are those of the automaton turned round
parts_turned : (c : After-alphabet) → IsTurned c.args.one.now (record {
  alphabet = c.alphabet.result;
  initial = c.in_ok-initial.initial.items;
  rows = c.in_ok-rows.rows.items;
  accepting = c.in_ok-accepting.accepting.items;
})
parts_turned c =
    let own : c.table-table.result.now ≡ c.args.one.now.table = c.table-table.ensures.table in
    let rows = c.rows.ensures.rows ∙ ap (λ (table : Table). table.rows) own in
    let P : List Moves → Type 0 = λ rows. HaveAdded (replicate (length rows) []) c.in_ok-rows.rows.items (TurnsFirst rows (length rows)) in
    let Q : List Bool → Type 0 = λ accepting. (state : ℕ) → Contains c.in_ok-initial.initial.items state ↔ IsListed accepting (length accepting) state in
    turned_parts c.args.one.now _ c.alphabet.ensures.automaton c.alphabet.ensures.alphabet
    (subst P rows c.in_ok-rows.ensures)
    (subst Q (c.accepting.ensures.accepting ∙ ap (λ (table : Table). table.accepting) own) c.in_ok-initial.ensures)
    (c.in_ok-accepting.ensures ∙ ap (λ count. only c.initial.result count) c.len.ensures
    ∙ ap (λ initial. only initial (length c.rows-2.result.now)) (c.initial.ensures.initial ∙ ap (λ (table : Table). table.initial) own)
    ∙ ap (λ (rows : List Moves). only c.args.one.now.table.initial (length rows)) (c.rows-2.ensures.rows ∙ ap (λ (table : Table). table.rows) own))

pub new-requires : goal.new-requires
new-requires c =
    turned_nondeterministic c.args.one.now _ c.alphabet.ensures.automaton (parts_turned c) c.requires.0 c.requires.1

pub returns-clause-alphabet : goal.returns-clause-alphabet
returns-clause-alphabet c = ap (λ (nfa : Nondeterministic). nfa.alphabet) c.new.ensures ∙ c.alphabet.ensures.alphabet

result_turned : (c : After-alphabet) (nfa : Nondeterministic) → nfa ≡ record {
  alphabet = c.alphabet.result;
  initial = c.in_ok-initial.initial.items;
  rows = c.in_ok-rows.rows.items;
  accepting = c.in_ok-accepting.accepting.items;
} → IsTurned c.args.one.now nfa
result_turned c nfa is = let P : Nondeterministic → Type 0 = λ nfa. IsTurned c.args.one.now nfa in subst P (sym is) (parts_turned c)

pub returns-clause-sets : goal.returns-clause-sets
returns-clause-sets c = among_before c.args.one.now c.new.result c.alphabet.ensures.automaton
    (result_turned (goal.at.returns-clause-sets c).After-alphabet c.new.result c.new.ensures)

pub returns-clause-language : goal.returns-clause-language
returns-clause-language c = accepts_turned c.args.one.now c.new.result c.alphabet.ensures.automaton
    (result_turned (goal.at.returns-clause-language c).After-alphabet c.new.result c.new.ensures)
