use Rattle.std.proofs.Common.{◌≡◌, [], ◌∷◌, ◌++◌, List, subst, sym, ap}
use Rattle.kb_word.specs.Words.{Pair}
use Rattle.kb_word.specs.WordOrders.{Below}
use Rattle.kb_word.specs.Rewriting.{AreDecreasing}
use Rattle.kb_word.specs.declared.word_order.WordOrder.{WordOrder}
use Rattle.kb_rules.proofs.Listed.{AreDecreasing-push}
use Rattle.kb_rules.proofs.rules.Rules.push.Goals as goal

pub invariant_of-self-2 : goal.invariant_of-self-2
invariant_of-self-2 c =
    let order = c.self.inside.order in
    let along : WordOrder → Type 0 = λ own. Below own c.args.rule.1 c.args.rule.0 in
    let decreases = subst along (sym (ap (λ list. list.order) c.self.view_is)) c.requires in
    let P : List Pair → Type 0 = λ rules. AreDecreasing (Below order) (rules ++ c.args.rule ∷ []) in
    let same : c.make_room.new.rules.items ≡ c.self.inside.rules.items = c.make_room.ensures in
    subst (AreDecreasing (Below order)) (sym c.in_ok-push.ensures.items)
    (subst P (sym same)
    (AreDecreasing-push (Below order) c.self.inside.rules.items c.args.rule c.self.invariant decreases))
