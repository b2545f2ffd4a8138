use Rattle.std.proofs.Common.{◌≡◌, ◌+◌, ℕ, List, [], ◌∷◌, ◌++◌, get_or, sym, ap, ◌∙◌, subst}
use Rattle.std.specs.List.{filter_map}
use Rattle.kb_diff.specs.Tables.{step_in}
use Rattle.kb_diffwa.specs.declared.place.Place.{Place}
use Rattle.kb_diffwa.specs.Pairs.{move_by}
use Rattle.kb_diffwa.proofs.TrackMoves.{all_seconds, letter_at, moves_more}
use Rattle.kb_diffwa.proofs.pairs.Pairs.add_moves.Goals as goal

pub add_move-requires-clause-other_letter : goal.add_move-requires-clause-other_letter
add_move-requires-clause-other_letter c =
    let it = c.args.self.now in
    letter_at it.acceptor.now.table it.symbols.n it.plain.symbols c.args.place.now.second c.moves.ensures.row
    c.as_slice-second-items.result.now c.loop-second.second-index
    (c.as_slice-second-items.ensures.value ∙ c.moves.ensures.moves) c.loop-second-test.true

pub loop-second-preserved : goal.loop-second-preserved
loop-second-preserved c =
    let it = c.args.self.now in
    let h = move_by (step_in it.differences.now) it.symbols.n c.args.place.now.difference c.args.first in
    let items = c.as_slice-second-items.result.now in
    let second = get_or items c.loop-second.second-index (0, 0) in
    c.in_ok-add_move.ensures
    ∙ ap (λ (moves : List (ℕ × Place)). moves ++ filter_map h (second ∷ [])) c.loop-second.invariant
    ∙ moves_more h c.args.moves.now.items items c.loop-second.second-index (0, 0) c.loop-second-test.true

pub returns-in_ok-add_move-2 : goal.returns-in_ok-add_move-2
returns-in_ok-add_move-2 c =
    let it = c.args.self.now in
    let n : ℕ = it.symbols.n in
    let h = move_by (step_in it.differences.now) n c.args.place.now.difference c.args.first in
    let items = c.as_slice-second-items.result.now in
    let Q : ℕ → Type 0 = λ z. c.add_move-then-may_end.new.moves.items ≡ c.loop-second.moves.items ++ filter_map h ((z, 0) ∷ []) in
    subst Q c.padding.ensures c.in_ok-add_move-2.ensures
    ∙ ap (λ (moves : List (ℕ × Place)). moves ++ filter_map h ((n + 1, 0) ∷ [])) c.loop-second.invariant
    ∙ all_seconds it.acceptor.now.table n c.args.place.now.second c.loop-second.second-index items
    (c.as_slice-second-items.ensures.value ∙ c.moves.ensures.moves) c.loop-second-test.false h c.args.moves.now.items
    (sym c.may_end.ensures ∙ c.if-may_end.true)
