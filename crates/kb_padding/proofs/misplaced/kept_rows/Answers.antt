use Rattle.std.proofs.Common.{◌≡◌, ◌++◌, ◌+◌, ℕ, not, [], ◌∷◌, take, length, get_or, sym, ap, ◌∙◌, arith}
use Rattle.std.specs.List.{filter}
use Rattle.std.proofs.lemmas.List.{take_more, length-take-le}
use Rattle.kb_padding.specs.Cleaning.{is_dropped, kept_rows}
use Rattle.kb_padding.proofs.Cleanings.{kept_rows-push}
use Rattle.kb_padding.proofs.misplaced.kept_rows.Goals as goal

pub loop-place-preserved : goal.loop-place-preserved
loop-place-preserved c =
    let reach = c.args.reach.now in
    let rows = c.args.rows.now in
    let place = c.loop-place.place in
    let dropped = is_dropped c.args.n reach.marks.items reach.first.items reach.second.items in
    let state = c.loop-place.invariant.state in
    let count = c.len-place-end.ensures in
    let next = take_more rows place [] (omega arith) in
    let number : c.loop-place.state + 1 ≡ 1 + length (take place rows) = omega (arith, length-take-le place rows (omega arith)) in
    let row = c.as_slice.ensures.value ∙ c.in_ok-row.ensures.kept ∙ ap (filter (λ (move : ℕ × ℕ). not (dropped (c.loop-place.state + 1) move.0))) c.get.ensures.moves in
    record {
      state = omega arith;
      kept =
          c.in_ok-push.ensures.pushed ∙ ap (λ kept. kept ++ c.as_slice.result.now ∷ []) c.loop-place.invariant.kept
          ∙ ap (λ row. kept_rows dropped 1 (take place rows) ++ row ∷ []) row
          ∙ sym (ap (kept_rows dropped 1) next ∙ kept_rows-push dropped (take place rows) 1 (c.loop-place.state + 1) (get_or rows place []) number);
    }
