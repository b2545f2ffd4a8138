use Rattle.std.proofs.Common.{rules, ◌≡◌, ◌<◌, [], ◌∷◌, ◌++◌, List, length, slice_get, Some, sym, ap, subst, refl}
use Rattle.std.specs.List.{remove}
use Rattle.std.proofs.lemmas.Option.{slice_get_read}
use Rattle.kb_word.specs.Words.{Pair}
use Rattle.kb_word.specs.WordOrders.{Below}
use Rattle.kb_word.specs.Rewriting.{AreDecreasing}
use Rattle.kb_word.specs.declared.word_order.WordOrder.{WordOrder}
use Rattle.kb_rules.proofs.Listed.{AreDecreasing-push, AreDecreasing-remove}
use Rattle.kb_rules.proofs.rules.Rules.replace.Goals as goal

pub invariant_of-self : goal.invariant_of-self
invariant_of-self c =
    let order = c.self.inside.order in
    let along : WordOrder → Type 0 = λ own. Below own c.args.rule.1 c.args.rule.0 in
    let decreases = subst along (sym (ap (λ list. list.order) c.self.view_is)) c.requires.falls in
    let items : c.push.new.self.items ≡ remove c.self.inside.rules.items c.args.index ++ c.args.rule ∷ [] = search rules in
    subst (AreDecreasing (Below order)) (sym items)
    (AreDecreasing-push (Below order) (remove c.self.inside.rules.items c.args.index) c.args.rule
    (AreDecreasing-remove (Below order) c.self.inside.rules.items c.args.index c.self.invariant) decreases)

pub returns-clause-rule : goal.returns-clause-rule
returns-clause-rule c =
    let same = ap (λ list. list.rules) c.self.view_is in
    let P : List Pair → Type 0 = λ pairs. slice_get pairs c.args.index ≡ Some c.remove-gone.result in
    let Q : List Pair → Type 0 = λ pairs. c.args.index < length pairs in
    subst P same (slice_get_read c.self.inside.rules.items (length c.self.inside.rules.items) c.args.index c.remove-gone.result refl
    (subst Q (sym same) c.requires.index) c.remove-gone.ensures.value)
