use Rattle.std.proofs.Common.{rules, inl, inr}
use Rattle.kb_word.specs.WordOrders.{Below}
use Rattle.kb_word.specs.WordOrderLaws.{word_orders}
use Rattle.kb_book.proofs.steps.ordered.Goals as goal

pub returns-else-less-clause-less : goal.returns-else-less-clause-less
returns-else-less-clause-less c =
    let apart : ¬ Below c.args.order.now c.args.u c.args.v = search rules in
    elim ((word_orders c.args.order.now).total c.args.u c.args.v) [
      | inl same ↦ absurd (c.requires same)
      | inr below ↦ elim below [ inl less ↦ absurd (apart less) | inr greater ↦ greater ]
    ]
