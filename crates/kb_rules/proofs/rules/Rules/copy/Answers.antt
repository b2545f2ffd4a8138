use Rattle.std.proofs.Common.{List, sym, ap, ◌∙◌, subst}
use Rattle.kb_word.specs.Words.{Pair}
use Rattle.kb_word.specs.WordOrders.{Below}
use Rattle.kb_word.specs.Rewriting.{AreDecreasing}
use Rattle.kb_word.specs.declared.word_order.WordOrder.{WordOrder}
use Rattle.kb_rules.proofs.rules.Rules.copy.Goals as goal

pub invariant_of-result : goal.invariant_of-result
invariant_of-result c =
    let along : WordOrder → Type 0 = λ order. AreDecreasing (Below order) c.in_ok-rules.rules.items in
    let of : List Pair → Type 0 = AreDecreasing (Below c.self.inside.order) in
    subst along (sym c.in_ok-order.ensures) (subst of (sym (c.in_ok-rules.ensures ∙ c.as_slice.ensures.rules ∙ sym (ap (λ list. list.rules) c.self.view_is))) c.self.invariant)
