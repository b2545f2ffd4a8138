use Rattle.std.proofs.Common.{arith}
use Rattle.kb_draw.proofs.Sharing.{nothing_drawn, drawn_within, after_part, is_dry, after_last}
use Rattle.kb_draw.proofs.work.draw_to_end.Goals as goal

pub loop-init : goal.loop-init
loop-init g c = (
  c.requires.seat.0,
  c.in_ok-share.ensures,
  nothing_drawn (g.W.Work.parts c.args.work.now) (g.W.Work.done c.args.work.now) c.args.worker.seat c.in_ok-share.share c.requires.seat.1,
)

pub take-requires-clause-part : goal.take-requires-clause-part
take-requires-clause-part g c = let within = drawn_within c.in-Some-next.ensures.taken in let end = c.requires.end in omega (arith, within, end)

pub loop-preserved : goal.loop-preserved
loop-preserved g c = (
  c.next-in-loop.ensures.seat,
  c.in_ok-take.ensures.sound,
  after_part (g.W.Work.parts c.args.work.now) (g.W.Work.done c.args.work.now) c.loop.share c.take.new.share c.in-Some-next.ensures.taken
      c.in_ok-take.ensures.done c.in_ok-take.ensures.earlier c.loop.invariant.2,
)

pub returns-in_default : goal.returns-in_default
returns-in_default g c = record {
  seat = c.next-in-loop.ensures.seat;
  dry = is_dry c.in_default.ensures.taken;
  sound = c.loop.invariant.1;
  done = after_last (g.W.Work.parts c.args.work.now) (g.W.Work.done c.args.work.now) c.loop.share c.in_default.ensures.taken c.requires.end
      c.loop.invariant.2;
}
