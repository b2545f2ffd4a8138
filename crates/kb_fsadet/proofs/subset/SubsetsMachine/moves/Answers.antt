use Rattle.std.proofs.Common.{◌≡◌, ℕ, List, length, sym, ap, ◌∙◌, subst}
use Rattle.std.specs.List.{All}
use Rattle.std.proofs.lemmas.Result.{IfOk-weaker}
use Rattle.kb_fsa.specs.Table.{Moves}
use Rattle.kb_fsa.specs.Language.{symbols}
use Rattle.kb_explore.specs.Machine.{AreMovesOf}
use Rattle.kb_fsadet.specs.Nondeterministic.{Nondeterministic, IsNondeterministic, IsOneOf}
use Rattle.kb_fsadet.specs.SubsetConstruction.{moves_of_each, subsets, AreGroups}
use Rattle.kb_fsadet.proofs.Targets.{moves_are_known, moves_from_groups}
use Rattle.kb_fsadet.proofs.subset.SubsetsMachine.moves.Goals as goal

-- the groups of what is gathered are the moves of the machine
grouped_moves : (nfa : Nondeterministic) (states : List ℕ) (moves : Moves) (groups : List (ℕ × List ℕ)) → IsNondeterministic nfa
    → moves ≡ moves_of_each nfa states → AreGroups moves groups → AreMovesOf (subsets nfa) (symbols nfa.alphabet) states groups
grouped_moves nfa states moves groups is gathered grouped =
    let P : Moves → Type 0 = λ some. AreGroups some groups in moves_from_groups nfa states groups is (subst P gathered grouped)

pub grouped-requires-clause-moves : goal.grouped-requires-clause-moves
grouped-requires-clause-moves c =
    let nfa = c.args.self.now.nfa.now in
    let Known : ℕ → ℕ → Moves → Type 0 = λ count rows moves. All (λ move. IsOneOf count move.0 × IsOneOf rows move.1) moves in
    let moves = c.as_slice-else-len-states.result.now in
    let gathered : moves ≡ moves_of_each nfa c.args.state.now =
    c.as_slice-else-len-states.ensures.value ∙ c.in_ok-moves.ensures.moves ∙ ap (moves_of_each nfa) c.as_slice.ensures in
    let count : c.symbols-symbols.result ≡ symbols nfa.alphabet = c.symbols-symbols.ensures ∙ ap symbols c.alphabet.ensures.alphabet in
    let rows : length c.rows-states.result.now ≡ length nfa.rows = ap length c.rows-states.ensures.rows in
    let known = moves_are_known nfa c.args.state.now c.in_ok-moves.ensures.automaton in
    subst (λ (n : ℕ). Known n (length c.rows-states.result.now) moves) (sym count)
    (subst (λ (n : ℕ). Known (symbols nfa.alphabet) n moves) (sym rows)
    (subst (Known (symbols nfa.alphabet) (length nfa.rows)) (sym gathered) known))

pub returns-then-len-states : goal.returns-then-len-states
returns-then-len-states c =
    let nfa = c.args.self.now.nfa.now in
    let states = c.args.state.now in
    let moves = c.in_ok-moves.moves.items in
    let gathered = c.in_ok-moves.ensures.moves ∙ ap (moves_of_each nfa) c.as_slice.ensures in
    IfOk-weaker c.grouped_by_sort.result (λ groups. AreGroups moves groups.items)
    (λ groups. AreMovesOf (subsets nfa) (symbols nfa.alphabet) states groups.items)
    (λ groups grouped. grouped_moves nfa states moves groups.items c.in_ok-moves.ensures.automaton gathered grouped)
    c.grouped_by_sort.ensures

pub returns-else-len-states : goal.returns-else-len-states
returns-else-len-states c =
    let nfa = c.args.self.now.nfa.now in
    let states = c.args.state.now in
    let moves = c.as_slice-else-len-states.result.now in
    let gathered = c.as_slice-else-len-states.ensures.value ∙ c.in_ok-moves.ensures.moves ∙ ap (moves_of_each nfa) c.as_slice.ensures in
    IfOk-weaker c.grouped.result (λ groups. AreGroups moves groups.items)
    (λ groups. AreMovesOf (subsets nfa) (symbols nfa.alphabet) states groups.items)
    (λ groups grouped. grouped_moves nfa states moves groups.items c.in_ok-moves.ensures.automaton gathered grouped)
    c.grouped.ensures
