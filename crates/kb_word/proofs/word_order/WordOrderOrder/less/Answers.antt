use Rattle.std.proofs.Common.{◌↔◌, IsTrue, sym, subst}
use Rattle.kb_word.specs.WordOrders.{Below}
use Rattle.kb_word.specs.declared.word_order.WordOrder.{WordOrder}
use Rattle.kb_word.proofs.word_order.WordOrderOrder.less.Goals as goal

pub returns-in-ShortLex : goal.returns-in-ShortLex
returns-in-ShortLex c =
    let P : WordOrder → Type 0 = λ order. IsTrue c.less.result ↔ Below order c.args.u.now c.args.v.now in
    subst P (sym c.in-ShortLex.is) c.less.ensures

pub returns-in-WtLex : goal.returns-in-WtLex
returns-in-WtLex c =
    let P : WordOrder → Type 0 = λ order. IsTrue c.less-in-WtLex.result ↔ Below order c.args.u.now c.args.v.now in
    subst P (sym c.in-WtLex.is) c.less-in-WtLex.ensures
