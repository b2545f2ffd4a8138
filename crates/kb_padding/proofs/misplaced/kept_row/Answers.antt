use Rattle.std.proofs.Common.{◌≡◌, ℕ, not, take, sym, ap, ◌∙◌, subst, arith}
use Rattle.std.specs.List.{filter}
use Rattle.std.proofs.lemmas.List.{take_all}
use Rattle.kb_fsa.specs.Table.{IsRow}
use Rattle.kb_padding.specs.Cleaning.{is_dropped}
use Rattle.kb_padding.proofs.Cleanings.{IsRow-kept}
use Rattle.kb_padding.proofs.misplaced.kept_row.Goals as goal

pub returns-clause-row : goal.returns-clause-row
returns-clause-row c =
    let reach = c.args.reach.now in
    let row = c.args.row.now in
    let dropped = is_dropped c.args.n reach.marks.items reach.first.items reach.second.items c.args.state in
    let whole : take c.loop-symbol.symbol-index row ≡ row = take_all c.loop-symbol.symbol-index row (omega arith) in
    subst IsRow (sym (c.loop-symbol.invariant ∙ ap (filter (λ (move : ℕ × ℕ). not (dropped move.0))) whole))
    (IsRow-kept (λ symbol. not (dropped symbol)) row c.requires.row)
