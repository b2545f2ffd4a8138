use Rattle.std.proofs.Common.{◌≡◌, ◌+◌, ◌<◌, ◌∷◌, ◌++◌, [], ℕ, length, get_or, take, All, sym, ap, ◌∙◌, subst, append_assoc, arith}
use Rattle.kb_fsamin.specs.Rounds.{class_of, class_row}
use Rattle.kb_fsamin.proofs.Signatures.{moves_decide}
use Rattle.kb_fsamin.proofs.ClassRows.{class_row-more_dead, class_row-more_live}
use Rattle.kb_fsamin.proofs.stability.are_alike.Goals as goal
use Rattle.kb_fsamin.proofs.stability.are_alike.Goals.{then-class-ne0+in-Some, else-class-ne0}

pub loop-symbol-preserved : goal.loop-symbol-preserved
loop-symbol-preserved c =
    let classes = c.args.classes.now in
    let one = c.args.one.now in
    let place = c.loop-symbol.symbol-index in
    let move = get_or one place (0, 0) in
    let before = class_row classes (take place one) in
    elim c.if-class-ne0.branch [
      | then-class-ne0+in-Some w ↦
          let later = w.in-Some.later.now in
          let seen : ℕ × ℕ = (move.0, class_of classes move.1) in
          let is : w.in-Some.first ≡ seen = (moves_decide w.in-Some.first seen).0 (sym w.eq.ensures ∙ w.if-eq.true) in
          let rest : c.if-class-ne0.rest.now ≡ later = ap (λ r. r.now) w.rest-is in
          record {
            same = c.loop-symbol.invariant.same
                ∙ ap (λ r. before ++ r) (w.in-Some.ensures.row ∙ ap (λ f. f ∷ class_row classes later) is)
                ∙ sym (append_assoc before (seen ∷ []) (class_row classes later))
                ∙ ap (λ r. r ++ class_row classes later) (sym (class_row-more_live classes one place (omega arith) w.if-class-ne0.true))
                ∙ ap (λ r. class_row classes (take (place + 1) one) ++ class_row classes r) (sym rest);
            known = subst (All (λ (m : ℕ × ℕ). m.1 < length classes)) (sym rest) w.in-Some.ensures.later;
          }
      | else-class-ne0 w ↦
          let rest : c.if-class-ne0.rest.now ≡ c.loop-symbol.rest.now = ap (λ r. r.now) w.rest-is in
          record {
            same = c.loop-symbol.invariant.same
                ∙ ap (λ r. r ++ class_row classes c.loop-symbol.rest.now) (sym (class_row-more_dead classes one place (omega arith) w.if-class-ne0.false))
                ∙ ap (λ r. class_row classes (take (place + 1) one) ++ class_row classes r) (sym rest);
            known = subst (All (λ (m : ℕ × ℕ). m.1 < length classes)) (sym rest) c.loop-symbol.invariant.known;
          }
    ]
