use Rattle.std.proofs.Common.{◌<◌, ap, arith}
use Rattle.kb_draw.proofs.Steps.{may_split}
use Rattle.kb_draw.proofs.draw.Draw.deal.Goals as goal

pub split_seat-other-requires : goal.split_seat-other-requires
split_seat-other-requires c =
    let words = c.args.self.now.one_word.0 in
    let place = c.loop-dealt.invariant.3 in
    let splits = ap (λ m. m.0.splits) place.1 in
    let more = c.loop-dealt-test.true in
    let may : 0 < c.loop-dealt.place.me.0.splits = omega (arith, splits, more) in
    (place.0, omega (arith, words), may_split _ _ _ may)
