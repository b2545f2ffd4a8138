use Rattle.std.proofs.Common.{◌≡◌, ◌+◌, ℕ, List, ◌++◌, get_or, sym, ap, ◌∙◌, subst}
use Rattle.std.specs.List.{filter_map}
use Rattle.kb_fsa.specs.PairSymbols.{pair_symbols}
use Rattle.kb_fsa.proofs.Lookups.{IsRow-moves_of}
use Rattle.kb_explore.specs.Machine.{AreMovesOf}
use Rattle.kb_diff.specs.Tables.{step_in}
use Rattle.kb_diffwa.specs.declared.place.Place.{Place}
use Rattle.kb_diffwa.specs.Tracks.{track_moves}
use Rattle.kb_diffwa.specs.Pairs.{move_by, pairs}
use Rattle.kb_diffwa.proofs.TrackMoves.{all_firsts, crossed_more, letter_at, place_moves, without_padding}
use Rattle.kb_diffwa.specs.Pairs.{crossed}
use Rattle.kb_diffwa.proofs.pairs.PairsMachine.moves.Goals.{then-may_end+in_ok-add_moves-2, else-may_end}
use Rattle.kb_diffwa.proofs.pairs.PairsMachine.moves.Goals as goal

pub add_moves-requires-clause-letter : goal.add_moves-requires-clause-letter
add_moves-requires-clause-letter c =
    let it = c.args.self.now in
    letter_at it.acceptor.now.table it.symbols.n it.plain.symbols c.args.place.now.first c.moves.ensures.row
    c.as_slice-first-items.result.now c.loop-first.first-index
    (c.as_slice-first-items.ensures.value ∙ c.moves.ensures.moves) c.loop-first-test.true

pub loop-first-preserved : goal.loop-first-preserved
loop-first-preserved c =
    let it = c.args.self.now in
    let place = c.args.place.now in
    let seconds = track_moves it.acceptor.now.table it.symbols.n place.second in
    let step = step_in it.differences.now in
    let items = c.as_slice-first-items.result.now in
    let first = get_or items c.loop-first.first-index (0, 0) in
    c.in_ok-add_moves.ensures
    ∙ ap (λ (moves : List (ℕ × Place)). moves ++ filter_map (move_by step it.symbols.n place.difference first) seconds) c.loop-first.invariant
    ∙ crossed_more step it.symbols.n place.difference items seconds c.loop-first.first-index (0, 0) c.loop-first-test.true

pub returns : goal.returns
returns c =
    let it = c.args.self.now in
    let place = c.args.place.now in
    let table = it.acceptor.now.table in
    let n : ℕ = it.symbols.n in
    let seconds = track_moves table n place.second in
    let step = step_in it.differences.now in
    let items = c.as_slice-first-items.result.now in
    let are = c.as_slice-first-items.ensures.value ∙ c.moves.ensures.moves in
    let P : List (ℕ × Place) → Type 0 = λ moves. AreMovesOf (pairs table n step it.targets.now) (pair_symbols n) place moves in
    let all = place_moves table n step it.targets.now it.plain.symbols place
    (IsRow-moves_of table place.first it.plain.table) (IsRow-moves_of table place.second it.plain.table) in
    elim c.if-may_end.branch [
      | then-may_end+in_ok-add_moves-2 w ↦
          let Q : ℕ → Type 0 = λ z. w.add_moves-then-may_end.new.moves.items
          ≡ c.loop-first.moves.items ++ filter_map (move_by step n place.difference (z, 0)) seconds in
          let added = subst Q w.padding.ensures w.in_ok-add_moves-2.ensures in
          let whole = added
          ∙ ap (λ (moves : List (ℕ × Place)). moves ++ filter_map (move_by step n place.difference (n + 1, 0)) seconds) c.loop-first.invariant
          ∙ all_firsts table n place.first c.loop-first.first-index items are c.loop-first-test.false step place.difference seconds
          (sym c.may_end.ensures ∙ w.if-may_end.true) in
          subst P (sym (ap (λ v. v.items) w.moves-is ∙ whole)) all
      | else-may_end w ↦
          let whole = c.loop-first.invariant
          ∙ ap (λ moves. crossed step n place.difference moves seconds)
          (without_padding table n place.first c.loop-first.first-index items are c.loop-first-test.false
          (sym c.may_end.ensures ∙ w.if-may_end.false)) in
          subst P (sym (ap (λ v. v.items) w.moves-is ∙ whole)) all
    ]
