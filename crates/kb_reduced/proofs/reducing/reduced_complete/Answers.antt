use Rattle.std.proofs.Common.{List, sym, ◌∙◌, subst}
use Rattle.kb_word.specs.Words.{Pair}
use Rattle.kb_word.specs.WordOrders.{Below}
use Rattle.kb_word.specs.WordOrderLaws.{word_orders}
use Rattle.kb_word.specs.declared.word_order.WordOrder.{WordOrder}
use Rattle.kb_word.specs.Rewriting.{AreDecreasing}
use Rattle.kb_reduced.specs.Reduced.{IsReducedComplete}
use Rattle.kb_reduced.proofs.Complete as complete
use Rattle.kb_reduced.proofs.Found.{one_right_side, reduced_found}
use Rattle.kb_reduced.proofs.reducing.reduced_complete.Goals as goal

pub in_order-sorted-requires : goal.in_order-sorted-requires
in_order-sorted-requires g c =
    one_right_side c.as_slice.result.now _ c.in_ok-minimal.minimal.items c.in_ok-minimal.ensures

pub from_vec-requires : goal.from_vec-requires
from_vec-requires g c =
    let given = c.args.rules.now in
    let sorted = c.in_order-sorted.result.items in
    let found = reduced_found given.order given.rules c.order.result.now c.as_slice.result.now c.in_ok-minimal.minimal.items sorted
    c.as_slice.ensures.decreasing c.requires.confluent c.as_slice.ensures.rules c.order.ensures c.in_ok-minimal.ensures
    c.in_order-sorted.ensures in
    let system = complete.reduced_complete (word_orders given.order) given.rules sorted found in
    let P : WordOrder → Type 0 = λ order. AreDecreasing (Below order) sorted in
    subst P (sym (c.in_ok-order.ensures ∙ c.order-2.ensures)) system.decreasing

pub returns-clause-reduced : goal.returns-clause-reduced
returns-clause-reduced g c =
    let given = c.args.rules.now in
    let sorted = c.in_order-sorted.result.items in
    let found = reduced_found given.order given.rules c.order.result.now c.as_slice.result.now c.in_ok-minimal.minimal.items sorted
    c.as_slice.ensures.decreasing c.requires.confluent c.as_slice.ensures.rules c.order.ensures c.in_ok-minimal.ensures
    c.in_order-sorted.ensures in
    let P : List Pair → Type 0 = λ list. IsReducedComplete (Below given.order) given.rules list in
    subst P (sym c.from_vec.ensures.rules) found
