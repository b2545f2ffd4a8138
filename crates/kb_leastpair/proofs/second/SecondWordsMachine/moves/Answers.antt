use Rattle.std.proofs.Common.{ℕ, ◌+◌, List, sym, ap, ◌∙◌, subst, arith}
use Rattle.kb_leastpair.specs.declared.reading.Reading.{Reading}
use Rattle.kb_leastpair.specs.SecondWords.{AreMovesBefore, reading_at}
use Rattle.kb_leastpair.proofs.SecondMoves.{all_moves, moves_with, moves_without, read_on_is, reading_some}
use Rattle.kb_leastpair.proofs.second.SecondWordsMachine.moves.Goals.{then-state-ne0+in_ok-push, else-state-ne0}
use Rattle.kb_leastpair.proofs.second.SecondWordsMachine.moves.Goals as goal

pub loop-letter-preserved : goal.loop-letter-preserved
loop-letter-preserved c =
    let it = c.args.self.now in
    let table = it.pairs.now.table in
    let first = it.first.now in
    let reading = c.args.reading.now in
    let letter : ℕ = c.loop-letter.letter in
    let place : ℕ = c.next_place-place.result in
    let state : ℕ = c.step-state.result in
    let on = read_on_is it.symbols.n table first reading letter place state c.len.result c.padding-padding.result c.number_at-first.result
    c.symbol-symbol.result c.letters.result.now c.padding-padding.ensures c.letters.ensures.letters c.number_at-first.ensures
    c.symbol-symbol.ensures c.step-state.ensures.step c.len.ensures c.next_place-place.ensures in
    let P : List (ℕ × Reading) → Type 0 = λ moves. AreMovesBefore it.symbols.n table first reading (letter + 1) moves in
    elim c.if-state-ne0.branch [
      | then-state-ne0+in_ok-push w ↦
          subst P (sym w.in_ok-push.ensures.items ∙ ap (λ v. v.items) (sym w.moves-is))
          (moves_with it.symbols.n table first reading c.loop-letter.auto.letter c.loop-letter.invariant
          (record { place = place; state = state }) (on ∙ reading_some place state w.if-state-ne0.true))
      | else-state-ne0 w ↦
          subst P (ap (λ v. v.items) (sym w.moves-is))
          (moves_without it.symbols.n table first reading c.loop-letter.auto.letter c.loop-letter.invariant
          (on ∙ ap (reading_at place) w.if-state-ne0.false))
    ]

pub returns : goal.returns
returns c =
    let it = c.args.self.now in
    all_moves it.symbols.n it.pairs.now.table it.first.now c.args.reading.now it.place it.state c.loop-letter.letter
    c.loop-letter.moves.items
    (omega (arith, c.padding-padding.ensures)) (omega (arith, c.padding-padding.ensures)) c.loop-letter.invariant
