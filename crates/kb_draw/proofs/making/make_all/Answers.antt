use Rattle.std.proofs.Common.{ℕ, subst}
use Rattle.std.proofs.lemmas.Result.{IfOk-weaker}
use Rattle.kb_draw.specs.Shares.{AreInOrder}
use Rattle.kb_draw.proofs.Order.{made_in_order}
use Rattle.kb_draw.proofs.making.make_all.Goals as goal

pub returns : goal.returns
returns g c =
    let making = c.args.making.now in
    let shares = c.in_ok-shares.shares.items in
    IfOk-weaker c.in_order.result _ _
    (λ list are.
    let In : ℕ → Type 0 = λ places. AreInOrder places shares list.items in
    made_in_order (g.M.Making.places making) (g.M.Making.is making) shares list.items c.in_ok-shares.ensures.sound
    (subst In c.places.ensures are))
    c.in_order.ensures
