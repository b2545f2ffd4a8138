use Rattle.std.proofs.Common.{◌∙◌, [], ◌∷◌, ◌++◌, arith, sym, ap, length, append_assoc}
use Rattle.kb_auto.proofs.gathering.joined.Goals as goal

pub loop-equality-preserved : goal.loop-equality-preserved
loop-equality-preserved c =
    let is = c.loop-equality.invariant in
    let step = c.in-Some.ensures.steps in record {
      whole = ap (λ l. l ++ c.next.new.self.rest.items) c.in_ok-push.ensures.items
          ∙ (append_assoc c.loop-equality.equalities.items (_ ∷ []) c.next.new.self.rest.items
          ∙ (ap (λ l. c.loop-equality.equalities.items ++ l) (sym step.0) ∙ is.whole));
      counted = omega (arith, step.1, is.counted, ap length step.0);
    }
