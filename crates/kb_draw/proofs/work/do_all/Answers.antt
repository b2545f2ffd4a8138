use Rattle.kb_draw.proofs.Sharing.{one_more_part}
use Rattle.kb_draw.proofs.work.do_all.Goals as goal

pub loop-part-preserved : goal.loop-part-preserved
loop-part-preserved g c = (
  c.in_ok-take.ensures.sound,
  one_more_part (g.W.Work.done c.args.work.now) c.loop-part.share c.take.new.share c.loop-part.part
      c.in_ok-take.ensures.done c.in_ok-take.ensures.earlier c.loop-part.invariant.1,
  c.loop-part.invariant.2,
)
