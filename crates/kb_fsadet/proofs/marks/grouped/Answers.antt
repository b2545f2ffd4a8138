use Rattle.std.proofs.Common.{◌≡◌, ◌≤◌, ◌-◌, true, Bool, List, [], ℕ, length, get_or, set, take, sym, ap, ◌∙◌, subst, arith}
use Rattle.std.proofs.lemmas.List.{get_or_default, take_all}
use Rattle.std.proofs.lemmas.Result.{IfOk-weaker}
use Rattle.kb_fsa.specs.Table.{Moves}
use Rattle.kb_fsadet.specs.SubsetConstruction.{AreGroups}
use Rattle.kb_fsadet.specs.Marks.{AreMarkedRows, groups_from}
use Rattle.kb_fsadet.proofs.Marking.{AreMarkedRows-more, groups_from_rows, row_length}
use Rattle.kb_fsadet.proofs.marks.grouped.Goals as goal

-- all moves are marked
all_marked : (moves : Moves) (count states place : ℕ) (own rows : List (List Bool)) → AreMarkedRows (take place moves) count states own
    → length moves ≤ place → rows ≡ own → AreMarkedRows moves count states rows
all_marked moves count states place own rows are all same =
    let P : Moves → Type 0 = λ some. AreMarkedRows some count states own in
    subst (AreMarkedRows moves count states) (sym same) (subst P (take_all place moves all) are)

pub loop-symbol-preserved : goal.loop-symbol-preserved
loop-symbol-preserved c =
    let moves = c.args.moves.now in
    let place = c.loop-symbol.symbol-index in
    let rows = c.loop-symbol.rows.items in
    let target = (get_or moves place (0, 0)).1 in
    let known = c.requires.moves place (0, 0) c.loop-symbol-test.true in
    let count = c.loop-symbol.invariant.one_each in
    AreMarkedRows-more moves c.args.symbols c.args.states rows place (0, 0) c.mark.new.self c.loop-symbol-test.true known.0 known.1
    c.loop-symbol.invariant
    (c.mark.ensures ∙ ap (λ row. set row (target - 1) true)
    (c.index_mut-row.ensures.value ∙ get_or_default rows _ _ [] (omega (arith, known.0.0, known.0.1))))

pub groups_of-requires-clause-states : goal.groups_of-requires-clause-states
groups_of-requires-clause-states c k d within =
    let moves = c.args.moves.now in
    let rows = c.as_slice.result.now in
    let marked = all_marked moves c.args.symbols c.args.states c.loop-symbol.symbol-index c.loop-symbol.rows.items rows
    c.loop-symbol.invariant c.loop-symbol-test.false c.as_slice.ensures.value in
    let size = c.requires.size in
    omega (arith, row_length moves c.args.symbols c.args.states rows marked k d within)

pub returns : goal.returns
returns c =
    let moves = c.args.moves.now in
    let rows = c.as_slice.result.now in
    let marked = all_marked moves c.args.symbols c.args.states c.loop-symbol.symbol-index c.loop-symbol.rows.items rows
    c.loop-symbol.invariant c.loop-symbol-test.false c.as_slice.ensures.value in
    let groups = groups_from_rows moves c.args.symbols c.args.states rows c.requires.moves marked in
    let P : List (ℕ × List ℕ) → Type 0 = AreGroups moves in
    IfOk-weaker c.groups_of.result (λ some. some.items ≡ groups_from 1 rows) (λ some. AreGroups moves some.items)
    (λ some is. subst P (sym is) groups) c.groups_of.ensures
