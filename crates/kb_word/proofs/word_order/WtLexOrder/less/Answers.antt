use Rattle.std.proofs.Common.{ℕ, ◌↔◌, List, IsTrue, subst}
use Rattle.kb_word.specs.Weights.{LessByWeight}
use Rattle.kb_word.proofs.word_order.WtLexOrder.less.Goals as goal

pub returns : goal.returns
returns c =
    let P : List ℕ → Type 0 = λ weights. IsTrue c.less_by_weight.result ↔ LessByWeight weights c.args.u.now c.args.v.now in
    subst P c.weights.ensures.weights c.less_by_weight.ensures
