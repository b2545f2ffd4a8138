use Rattle.std.proofs.Common.{length, ◌∙◌}
use Rattle.std.proofs.lemmas.Iterator.Adapters.{YieldsList-from_vec}
use Rattle.std.proofs.lemmas.Iterator.Consumers.{YieldsList-turn}
use Rattle.kb_draw.proofs.Order.{not_empty}
use Rattle.kb_draw.proofs.slots.taken_out.Goals as goal

pub unreachable-requires : goal.unreachable-requires
unreachable-requires g c =
    let given = c.into_iter-slot-iterator.ensures.into_iter_gives in
    let whole = YieldsList-from_vec {s = c.into_iter-slot-iterator.result} c.args.slots.items given.0 (given.1 ∙ c.args.slots.ok.0) in
    let turn = YieldsList-turn whole c.loop-slot.yielded c.loop-slot.slot-iterator c.loop-slot.yielded_by c.next.result c.next.new.self
    c.in-Some.slot c.in-Some.is c.next.ensures.steps in
    not_empty c.args.slots.items (length c.loop-slot.yielded) c.in-Some.slot c.requires turn.0 turn.1 c.in_default.is
