use Rattle.std.proofs.Common.{◌++◌, ◌∷◌, [], get_or, ap, ◌∙◌, arith}
use Rattle.std.proofs.lemmas.List.{get_or_default}
use Rattle.kb_fsarat.proofs.Turning.{turn_none, turn_more}
use Rattle.kb_fsarat.proofs.reversal.add_reversed.Goals as goal

pub loop-symbol-init : goal.loop-symbol-init
loop-symbol-init c = turn_none _ c.args.state c.args.moves.now

pub loop-symbol-preserved : goal.loop-symbol-preserved
loop-symbol-preserved c =
    let move = c.requires c.loop-symbol.symbol-index (0, 0) c.loop-symbol-test.true in
    let count = c.loop-symbol.invariant.one_row_each in
    turn_more c.args.turned.now c.loop-symbol.turned c.args.state c.args.moves.now c.loop-symbol.symbol-index c.push.new.self (0, 0)
    c.loop-symbol-test.true move.0 (omega arith) c.loop-symbol.invariant
    (c.in_ok-push.ensures.ok
    ∙ ap (λ row. row ++ ((get_or c.args.moves.now c.loop-symbol.symbol-index (0, 0)).0, c.args.state) ∷ [])
    (get_or_default c.loop-symbol.turned _ _ [] (omega arith)))
