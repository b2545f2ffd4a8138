use Rattle.std.proofs.Common.{take}
use Rattle.kb_share.specs.declared.found.Found.{Found}
use Rattle.kb_share.proofs.Overlapping.{still_overlaps}
use Rattle.kb_share.proofs.entering.enter_all.Goals as goal

pub enter-requires : goal.enter-requires
enter-requires g c =
    let found = c.args.found.now in
    let next = c.loop-one.one-index in
    let none : Found = record { first = 0; second = 0; place = 0 } in
    still_overlaps c.args.worker c.args.book.now.course c.loop-one.book.course (take next found) _ c.loop-one.invariant
    (c.requires next none c.loop-one-test.true)
