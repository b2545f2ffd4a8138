use Rattle.std.proofs.Common.{ℕ, ◌+◌, ◌∷◌, ◌++◌, [], List, sym, ap, ◌∙◌, subst, arith}
use Rattle.kb_rules.proofs.Unique.{normal_form_unique}
use Rattle.kb_labels.specs.declared.reading.Reading.{Reading}
use Rattle.kb_labels.specs.Seconds.{Beside, AreMovesBefore, normal_form_of, is_normal_form}
use Rattle.kb_labels.proofs.SecondMoves.{all_moves, moves_with, moves_without, next_state, read_some, read_none}
use Rattle.kb_labels.proofs.seconds.SecondsMachine.moves.Goals.{then-is_marked+in_ok-word+in_ok-push, else-is_marked}
use Rattle.kb_labels.proofs.seconds.SecondsMachine.moves.Goals as goal

pub loop-letter-preserved : goal.loop-letter-preserved
loop-letter-preserved g c =
    let it = c.args.self.now in
    let rules = g.R.Reducer.rules it.reducer.now in
    let order = g.R.Reducer.order it.reducer.now in
    let beside : Beside = record {
      n = it.symbols.n;
      table = it.pairs.now.table;
      marks = it.marks.now;
      normal = normal_form_of order rules it.decreasing;
      first = it.first.now;
      state = it.state;
      word = it.word.now;
      target = it.target.now;
    } in
    let reading = c.args.reading.now in
    let letter : ℕ = c.loop-letter.letter in
    let place : ℕ = c.next_place-place.result in
    let state : ℕ = c.step-state.result in
    let is = next_state beside reading letter state c.padding-padding.result c.number_at-first.result c.symbol-symbol.result c.letters.result.now
    c.padding-padding.ensures c.letters.ensures.letters c.number_at-first.ensures c.symbol-symbol.ensures c.step-state.ensures.step in
    let P : List (ℕ × Reading) → Type 0 = λ moves. AreMovesBefore beside reading (letter + 1) moves in
    elim c.if-is_marked.branch [
      | then-is_marked+in_ok-word+in_ok-push w ↦
          let word : List ℕ = w.in_ok-word.word in
          let next : Reading = record { place = place; state = state; word = word } in
          let word_is = normal_form_unique w.in_ok-word.ensures (is_normal_form order rules it.decreasing (reading.word ++ letter ∷ [])) in
          subst P (sym w.in_ok-push.ensures.items ∙ ap (λ v. v.items) (sym w.moves-is))
          (moves_with beside reading c.loop-letter.auto.letter c.loop-letter.invariant next
          (read_some beside reading letter place c.len.result state word c.len.ensures c.next_place-place.ensures is
          (sym c.is_marked.ensures ∙ w.if-is_marked.true) word_is))
      | else-is_marked w ↦
          subst P (ap (λ v. v.items) (sym w.moves-is))
          (moves_without beside reading c.loop-letter.auto.letter c.loop-letter.invariant
          (read_none beside reading letter state is (sym c.is_marked.ensures ∙ w.if-is_marked.false)))
    ]

pub returns : goal.returns
returns g c =
    let it = c.args.self.now in
    let rules = g.R.Reducer.rules it.reducer.now in
    let order = g.R.Reducer.order it.reducer.now in
    let beside : Beside = record {
      n = it.symbols.n;
      table = it.pairs.now.table;
      marks = it.marks.now;
      normal = normal_form_of order rules it.decreasing;
      first = it.first.now;
      state = it.state;
      word = it.word.now;
      target = it.target.now;
    } in
    all_moves beside c.args.reading.now c.loop-letter.letter c.loop-letter.moves.items
    (omega (arith, c.padding-padding.ensures, c.loop-letter-test.false)) (omega (arith, c.padding-padding.ensures, c.loop-letter.auto.letter-end))
    c.loop-letter.invariant
