use Rattle.std.proofs.Common.{◌≡◌, is_lt, rules}
use Rattle.std.proofs.lemmas.List.Sorted.{answers_always}
use Rattle.kb_overlap.proofs.Indexing.{lower, lower_order, sorted_sides}
use Rattle.kb_overlap.proofs.left_sides.LeftSides.of.Goals as goal

pub invariant_of-result : goal.invariant_of-result
invariant_of-result c =
    sorted_sides c.args.rules.now c.in_ok-sides.sides.items c.sort_by.new.self.items c.in_ok-sides.ensures c.sort_by.ensures.permutation
    (c.in_ok-sort_by.ensures.sorted lower lower_order
    (answers_always _ (λ a r. is_lt r ≡ lower a.0.now a.1.0.now) _ (λ f a r g k. search rules)))
