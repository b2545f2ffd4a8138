use Rattle.std.proofs.Common.{◌-◌, arith}
use Rattle.kb_count.proofs.Digits.{text-step}
use Rattle.kb_count.proofs.natural.append_limbs.Goals as goal

pub loop-place-preserved : goal.loop-place-preserved
loop-place-preserved c =
    let step = text-step c.args.limbs.now c.loop-place.place c.args.line.now.items c.loop-place.line.items
    c.append_limb.new.line.items (omega arith) (c.requires (c.loop-place.place - 1) 0 (omega arith))
    c.loop-place.invariant.positive c.loop-place.invariant.written c.in_ok-append_limb.ensures in
    record { within = omega arith; positive = step.0; written = step.1 }
