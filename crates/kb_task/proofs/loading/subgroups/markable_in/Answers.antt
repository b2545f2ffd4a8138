use Rattle.kb_io.specs.States.{ShelfState}
use Rattle.kb_task.proofs.LoadLemmas.{holds_group}
use Rattle.kb_task.proofs.loading.subgroups.markable_in.Goals as goal

pub returns-in-Err-look_for_marker-clause-counted : goal.returns-in-Err-look_for_marker-clause-counted
returns-in-Err-look_for_marker-clause-counted g c =
    c.in-Err-look_for_marker.ensures.unfailed (g.F.Shelf.state c.args.shelf.now) (g.F.Shelf.state c.group_in.new.shelf)

pub returns-in-Err-look_for_marker-clause-stops : goal.returns-in-Err-look_for_marker-clause-stops
returns-in-Err-look_for_marker-clause-stops g c = λ told.
    let shelf : ShelfState = g.F.Shelf.state c.args.shelf.now in
    let loads = c.in-Ok.ensures in
    c.in-Err-look_for_marker.ensures.stops shelf.holds c.args.name.now
    (holds_group shelf.holds c.args.name.now c.in-Ok.presentation (loads.holds told) loads.shortlex loads.group)
