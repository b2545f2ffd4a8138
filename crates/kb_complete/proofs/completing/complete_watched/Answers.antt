use Rattle.kb_complete.proofs.Rounds.{start_is_reduced}
use Rattle.kb_complete.proofs.completing.complete_watched.Goals as goal

pub grow_all-requires : goal.grow_all-requires
grow_all-requires g c =
    let bounds = c.type_bounds in
    let course = c.in_ok-book.book.course in
    let reduced = start_is_reduced course c.in_ok-book.ensures.state in
    (bounds.send-R, (bounds.sync-R, (bounds.sync-G, (bounds.sync-T, (reduced, c.new-finder.ensures course.state)))))
