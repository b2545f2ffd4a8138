use Rattle.std.proofs.Common.{◌≡◌, ◌<◌, ℕ, ◌+◌, suc, [], ◌∷◌, ◌++◌, length, get_or, List, arith, refl, sym, ap, ◌∙◌}
use Rattle.kb_fsa.specs.Table.{moves_of}
use Rattle.kb_fsa.specs.Canonical.{IsState}
use Rattle.kb_fsa.proofs.MoveLemmas.{backward_move, backward_row, backward_same, row_at}
use Rattle.kb_fsa.proofs.moves.reversed.Goals as goal

pub loop-symbol-preserved : goal.loop-symbol-preserved
loop-symbol-preserved c =
    let table = c.args.table.now in
    let state = c.loop-place.state + 1 in
    let place = c.loop-symbol.symbol-index in
    let rows = c.rows-rows.ensures.rows in
    let known : IsState table state = record { positive = omega arith; within = omega (arith, ap length rows, c.len-place-end.ensures) } in
    let row : c.get-symbol-items.result.now ≡ moves_of table state =
    c.get-symbol-items.ensures.moves ∙ ap (λ rs. get_or rs c.loop-place.place []) rows ∙ row_at table c.loop-place.place state (omega arith) in
    let within : place < length (moves_of table state) = omega (arith, ap length row) in
    backward_same table _ _ _ _ _ _ _ _ refl refl
    (ap (λ (ms : List (ℕ × ℕ)). c.loop-symbol.edges.items ++ ((get_or ms place (0, 0)).1, state) ∷ []) (sym row) ∙ sym c.in_ok-push.ensures.items)
    (ap (λ (ms : List (ℕ × ℕ)). c.loop-symbol.symbols.items ++ (get_or ms place (0, 0)).0 ∷ []) (sym row) ∙ sym c.in_ok-push-2.ensures.items)
    (backward_move table state place c.loop-symbol.edges.items c.loop-symbol.symbols.items c.rows-rows.ensures.table known within c.loop-symbol.invariant)

pub loop-place-preserved : goal.loop-place-preserved
loop-place-preserved c =
    let table = c.args.table.now in
    let state = c.loop-place.state + 1 in
    let rows = c.rows-rows.ensures.rows in
    let row : c.get-symbol-items.result.now ≡ moves_of table state =
    c.get-symbol-items.ensures.moves ∙ ap (λ rs. get_or rs c.loop-place.place []) rows ∙ row_at table c.loop-place.place state (omega arith) in
    record {
      backward = backward_same table _ _ _ _ _ _ _ _ (ap suc (omega arith)) refl refl refl
          (backward_row table state c.loop-symbol.symbol-index c.loop-symbol.edges.items c.loop-symbol.symbols.items
          (omega (arith, ap length row)) c.loop-symbol.invariant);
      state = omega arith;
    }
