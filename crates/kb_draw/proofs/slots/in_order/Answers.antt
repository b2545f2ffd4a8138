use Rattle.std.proofs.lemmas.Result.{IfOk-weaker}
use Rattle.kb_draw.proofs.Order.{all_full, in_order}
use Rattle.kb_draw.proofs.slots.in_order.Goals as goal

pub taken_out-requires : goal.taken_out-requires
taken_out-requires g c =
    all_full c.args.places c.args.shares.items c.in_ok-slots.slots.items c.fill_all.new.slots.items c.requires.all c.in_ok-slots.ensures
    c.fill_all.ensures

pub returns : goal.returns
returns g c =
    IfOk-weaker c.taken_out.result _ _
    (λ list taken.
    in_order c.args.places c.args.shares.items c.in_ok-slots.slots.items c.fill_all.new.slots.items list.items c.in_ok-slots.ensures
    c.fill_all.ensures taken)
    c.taken_out.ensures
