use Rattle.std.proofs.Common.{◌≡◌, ℕ, List, map, sym, ap, ◌∙◌, subst}
use Rattle.std.proofs.lemmas.List.{take_all}
use Rattle.kb_fsa.specs.Table.{Moves, moves_of}
use Rattle.kb_fsa.specs.Language.{symbols}
use Rattle.kb_explore.specs.Machine.{AreMovesOf}
use Rattle.kb_certificates.specs.declared.cascade.led.Led.{Led}
use Rattle.kb_certificates.specs.Cascade.{cascade, led_move}
use Rattle.kb_certificates.proofs.LedMoves.{led_moves}
use Rattle.kb_certificates.proofs.cascade.product.CascadeMachine.moves.Goals as goal

pub returns : goal.returns
returns g c =
    let leader = c.args.self.now.leader.now in
    let follower = g.F.Follower.follower c.args.self.now.follower.now in
    let both = c.args.both.now in
    let items = c.as_slice-symbol-items.result.now in
    let is = c.table-table.ensures.automaton in
    let row : items ≡ moves_of leader.table both.leader =
    c.as_slice-symbol-items.ensures.value ∙ c.moves.ensures.moves ∙ ap (λ table. moves_of table both.leader) c.table-table.ensures.table in
    let P : List (ℕ × Led g.row.F-State.Denot) → Type 0 = λ moves. AreMovesOf (cascade leader.table follower) (symbols leader.alphabet) both moves in
    let whole = c.loop-symbol.invariant
    ∙ ap (λ (moves : Moves). map (led_move follower both) moves) (take_all c.loop-symbol.symbol-index items c.loop-symbol-test.false ∙ row) in
    subst P (sym whole) (led_moves follower both leader.table (symbols leader.alphabet) is.table is.symbols)
