use Rattle.kb_io.specs.States.{ShelfState}
use Rattle.kb_task.proofs.DerivationLemmas.{cause_kept}
use Rattle.kb_task.proofs.loading.logs.derivations_in.Goals as goal

pub returns-in-Ok-clause-holds : goal.returns-in-Ok-clause-holds
returns-in-Ok-clause-holds g c = λ told.
    let shelf : ShelfState = g.F.Shelf.state c.args.shelf.now in
    c.with_derivations.ensures.holds shelf.holds c.args.name.now c.args.presentation.now.names (c.in-Ok.ensures.holds told)

pub returns-in-Ok-clause-stops : goal.returns-in-Ok-clause-stops
returns-in-Ok-clause-stops g c = λ told.
    let shelf : ShelfState = g.F.Shelf.state c.args.shelf.now in
    c.with_derivations.ensures.stops shelf.holds c.args.name.now c.args.presentation.now.names (c.in-Ok.ensures.holds told)

pub returns-in-Ok-clause-counted : goal.returns-in-Ok-clause-counted
returns-in-Ok-clause-counted g c = c.with_derivations.ensures.unfailed (g.F.Shelf.state c.args.shelf.now) (g.F.Shelf.state c.log_in.new.shelf)

pub returns-in-Err-clause-stops : goal.returns-in-Err-clause-stops
returns-in-Err-clause-stops g c = λ told.
    let shelf : ShelfState = g.F.Shelf.state c.args.shelf.now in
    cause_kept c.args.presentation.now.names shelf.holds c.args.name.now c.in-Err.stop (c.in-Err.ensures.stops told)
