use Rattle.std.proofs.Common.{◌+◌, [], ◌∷◌, ◌++◌, ℕ, List, Vec, Global, sym, ap, ◌∙◌}
use Rattle.kb_book.specs.declared.versions.Life.{Life}
use Rattle.kb_book.proofs.Lives.{next_with, next_without}
use Rattle.kb_book.proofs.versions.numbers_at.Goals as goal
use Rattle.kb_book.proofs.versions.numbers_at.Goals.{then-is_in+in_ok-push, else-is_in}

pub loop-index-preserved : goal.loop-index-preserved
loop-index-preserved c =
    let d : Life = record { born = 0; gone = 0 } in
    let index = c.loop-index.index in
    elim c.if-is_in.branch [
      | then-is_in+in_ok-push w ↦ ap (λ (v : Vec ℕ Global). v.items) w.numbers-is ∙ w.in_ok-push.ensures.items
          ∙ ap (λ (l : List ℕ). l ++ (index + 1) ∷ []) c.loop-index.invariant
          ∙ sym (next_with c.args.lives.now index d c.args.place c.loop-index-test.true (sym c.is_in.ensures ∙ w.if-is_in.true))
      | else-is_in w ↦ ap (λ (v : Vec ℕ Global). v.items) w.numbers-is ∙ c.loop-index.invariant
          ∙ sym (next_without c.args.lives.now index d c.args.place c.loop-index-test.true (sym c.is_in.ensures ∙ w.if-is_in.false))
    ]
