use Rattle.std.proofs.Common.{◌≡◌, ◌↔◌, rules}
use Rattle.std.specs.Ordering.{is_lt}
use Rattle.std.specs.declared.cmp.Ordering.TheVariants.{Less}
use Rattle.std.proofs.lemmas.List.Filters.{dedup_is}
use Rattle.std.proofs.lemmas.Fn.{always_returns_same}
use Rattle.kb_word.specs.Words.{Pair}
use Rattle.kb_word.specs.WordOrders.{Below}
use Rattle.kb_word.specs.WordOrderLaws.{word_orders}
use Rattle.kb_reduced.proofs.SortedOnce.{is_below, test_order, answers_test, sorted_once}
use Rattle.kb_reduced.proofs.reducing.in_order.Goals as goal

pub returns : goal.returns
returns c =
    let order = c.args.order.now in
    let laws = word_orders order in
    sorted_once laws c.args.rules.items c.sort_unstable_by.new.self.items c.dedup.new.self.items c.requires c.sort_unstable_by.ensures.permutation
    (c.sort_unstable_by.ensures.sorted (λ (p q : Pair). is_below laws p.0 q.0) (test_order laws (λ (p : Pair). p.0))
    (always_returns_same _ (λ a r. is_lt r ≡ is_below laws a.0.now.0 a.1.0.now.0) _
    (λ a r f' k.
    let answer : (r ≡ Less) ↔ Below order a.0.now.0 a.1.0.now.0 = search rules in
    (answers_test laws a.0.now.0 a.1.0.now.0 r answer, search rules))))
    (dedup_is _ _ _ c.dedup.ensures.filtered)
