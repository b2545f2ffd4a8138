use Rattle.std.proofs.Common.{subst, ap₂, ◌∙◌, ◌+◌, ◌≡◌, ℕ, List}
use Rattle.std.specs.List.{All}
use Rattle.kb_fsa.specs.Graphs.{IsMarked}
use Rattle.kb_fsa.specs.Table.{Moves, moves_of}
use Rattle.kb_count.specs.Totals.{sum_along}
use Rattle.kb_count.proofs.Settling.{settled-number, settled-one, targets-fit}
use Rattle.kb_count.proofs.totals.settle_state.Goals as goal

pub sum_along-requires : goal.sum_along-requires
sum_along-requires c =
    targets-fit c.args.table.now c.args.state c.row-row.result.now c.as_slice-2.result.now c.args.totals.now.numbers.items
    c.row-row.ensures.table c.row-row.ensures.moves c.as_slice-2.ensures.value c.requires.totals.one_each

pub returns-clause-totals : goal.returns-clause-totals
returns-clause-totals c =
    let table = c.args.table.now in
    let state = c.args.state in
    let settled = c.args.totals.now.settled.items in
    let numbers = c.args.totals.now.numbers.items in
    let all =
    subst (λ marks. All (λ move. IsMarked marks move.1) (moves_of table state)) c.as_slice.ensures.value
    (subst (λ row. All (λ move. IsMarked c.as_slice.result.now move.1) row) c.row-row.ensures.moves
    (c.lead_to_settled.ensures.all c.if-not-lead_to_settled.false)) in
    let total : c.in_ok-total.total ≡ c.in_ok-own.own + sum_along numbers (moves_of table state) =
    c.in_ok-total.ensures
    ∙ ap₂ (λ (values : List ℕ) (row : Moves). c.in_ok-own.own + sum_along values row) c.as_slice-2.ensures.value c.row-row.ensures.moves in
    settled-one table settled numbers state c.in_ok-total.total c.requires.totals c.requires.state.within
    (settled-number table settled numbers state c.in_ok-own.own c.in_ok-total.total c.row-row.ensures.table c.requires.totals
    all c.in_ok-own.ensures total)
