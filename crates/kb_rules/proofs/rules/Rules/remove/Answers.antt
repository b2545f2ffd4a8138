use Rattle.std.proofs.Common.{List, length, sym, ap, subst, refl, slice_get, ◌≡◌, ◌<◌, Some}
use Rattle.std.proofs.lemmas.Option.{slice_get_read}
use Rattle.kb_word.specs.Words.{Pair}
use Rattle.kb_word.specs.WordOrders.{Below}
use Rattle.kb_word.specs.Rewriting.{AreDecreasing}
use Rattle.kb_rules.proofs.Listed.{AreDecreasing-remove}
use Rattle.kb_rules.proofs.rules.Rules.remove.Goals as goal

pub invariant_of-self : goal.invariant_of-self
invariant_of-self c =
    subst (AreDecreasing (Below c.self.inside.order)) (sym c.remove.ensures.items)
    (AreDecreasing-remove (Below c.self.inside.order) c.self.inside.rules.items c.args.index c.self.invariant)

pub returns-clause-rule : goal.returns-clause-rule
returns-clause-rule c =
    let same = ap (λ list. list.rules) c.self.view_is in
    let P : List Pair → Type 0 = λ pairs. slice_get pairs c.args.index ≡ Some c.remove.result in
    let Q : List Pair → Type 0 = λ pairs. c.args.index < length pairs in
    subst P same (slice_get_read c.self.inside.rules.items (length c.self.inside.rules.items) c.args.index c.remove.result refl (subst Q (sym same) c.requires) c.remove.ensures.value)
