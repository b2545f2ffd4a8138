use Rattle.std.proofs.Common.{refl}
use Rattle.kb_draw.proofs.Filling.{goes_on}
use Rattle.kb_draw.proofs.slots.fill.Goals as goal

pub loop-one-preserved-in-Some : goal.loop-one-preserved-in-Some
loop-one-preserved-in-Some g c =
    let before = c.loop-one.invariant in
    goes_on c.pop.new.self.items c.loop-one.all.items c.args.all.items c.in-Some.one c.args.slots.now.items c.loop-one.slots.items _
    c.in-Some.ensures.items refl before.0 before.1 before.2

pub loop-one-preserved : goal.loop-one-preserved
loop-one-preserved g c =
    let before = c.loop-one.invariant in
    goes_on c.pop.new.self.items c.loop-one.all.items c.args.all.items c.in-Some.one c.args.slots.now.items c.loop-one.slots.items _
    c.in-Some.ensures.items refl before.0 before.1 before.2
