use Rattle.std.proofs.Common.{◌≡◌, ℕ, suc, ◌+◌, ◌<◌, false, List, [], ◌∷◌, ◌++◌, length, get_or, sym, ap, ap₂, ◌∙◌, subst, arith}
use Rattle.kb_fsa.specs.Table.{step}
use Rattle.kb_compose.specs.Progress.{AreEndingBelow}
use Rattle.kb_compose.proofs.Endings.{ending_more, ending_same}
use Rattle.kb_compose.proofs.tails.marked_pairs.Goals.{then-marks-step+in_ok-push, else-marks-step}
use Rattle.kb_compose.proofs.tails.marked_pairs.Goals as goal

pub loop-pair-preserved : goal.loop-pair-preserved
loop-pair-preserved c =
    let table = c.args.table.now in
    let marks = c.args.marks.now in
    let pairs = c.args.pairs.now in
    let number = c.loop-pair.number in
    let index = c.loop-pair.pair-index in
    let before = c.loop-pair.invariant in
    let ending = c.loop-pair.ending.items in
    let one : number + 1 ≡ suc number = omega arith in
    let state_is : c.step.result ≡ step table table.initial (suc number) = c.step.ensures.step ∙ ap₂ (step table) c.initial.ensures.initial one in
    let within : number < length pairs = omega (arith, before.number_is, c.loop-pair-test.true) in
    elim c.if-marks-step.branch [
      | then-marks-step+in_ok-push w ↦
          let marked = ap (λ s. get_or marks s false) (sym state_is) ∙ w.if-marks-step.true in
          let more = ending_more table marks pairs number ending before.below 0 within marked in
          let pushed = ap (λ k. ending ++ get_or pairs k 0 ∷ []) before.number_is ∙ sym w.in_ok-push.ensures.items ∙ ap (λ v. v.items) (sym w.ending-is) in
          let P : List ℕ → Type 0 = λ l. AreEndingBelow table marks pairs (suc number) l in
          let Q : ℕ → Type 0 = λ k. AreEndingBelow table marks pairs k c.if-marks-step.ending.items in
          record {
            number_is = omega (arith, before.number_is);
            below = subst Q (sym one) (subst P pushed more);
          }
      | else-marks-step w ↦
          let unmarked = ap (λ s. get_or marks s false) (sym state_is) ∙ w.if-marks-step.false in
          let same = ending_same table marks pairs number ending before.below unmarked in
          let P : List ℕ → Type 0 = λ l. AreEndingBelow table marks pairs (suc number) l in
          let Q : ℕ → Type 0 = λ k. AreEndingBelow table marks pairs k c.if-marks-step.ending.items in
          record {
            number_is = omega (arith, before.number_is);
            below = subst Q (sym one) (subst P (ap (λ v. v.items) (sym w.ending-is)) same);
          }
    ]
