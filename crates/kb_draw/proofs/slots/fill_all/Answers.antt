use Rattle.kb_draw.proofs.Filling.{shares_go_on}
use Rattle.kb_draw.proofs.slots.fill_all.Goals as goal

pub loop-share-preserved : goal.loop-share-preserved
loop-share-preserved g c =
    let before = c.loop-share.invariant in
    shares_go_on c.pop.new.self.items c.loop-share.shares.items c.args.shares.items c.in-Some.share c.args.slots.now.items
    c.loop-share.slots.items c.fill.new.slots.items c.in-Some.ensures.items c.fill.ensures before.0 before.1 before.2
