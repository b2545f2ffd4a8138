use Rattle.std.proofs.Common.{◌∙◌}
use Rattle.std.proofs.lemmas.Iterator.Adapters.{YieldsList-from_vec}
use Rattle.std.proofs.lemmas.Iterator.Consumers.{YieldsList-end}
use Rattle.kb_draw.specs.Workers.{no_more}
use Rattle.kb_draw.proofs.Sharing.{takes_more, taken_all}
use Rattle.kb_draw.proofs.work.taken.Goals as goal

pub loop-one-init : goal.loop-one-init
loop-one-init g c = rw (c.new-seats.ensures.items, c.new-shares.ensures.items) no_more

pub loop-one-preserved : goal.loop-one-preserved
loop-one-preserved g c =
    takes_more c.loop-one.yielded c.in-Some.one c.in_ok-seat.field-0 c.loop-one.seats.items _ c.loop-one.shares.items _ c.in_ok-seat.was
    c.in_ok-push.ensures.items c.in_ok-push-2.ensures.items c.loop-one.invariant

pub returns : goal.returns
returns g c =
    let given = c.into_iter-one-iterator.ensures.into_iter_gives in
    let whole = YieldsList-from_vec {s = c.into_iter-one-iterator.result} c.args.drawn.items given.0 (given.1 ∙ c.args.drawn.ok.0) in
    let end = YieldsList-end whole c.loop-one.yielded c.loop-one.one-iterator c.loop-one.yielded_by c.next.result c.next.new.self
    c.in-None.is c.next.ensures.steps in
    taken_all c.loop-one.yielded c.args.drawn.items _ _ end.0 c.loop-one.invariant
