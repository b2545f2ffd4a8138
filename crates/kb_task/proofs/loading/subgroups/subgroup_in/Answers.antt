use Rattle.kb_task.proofs.loading.subgroups.subgroup_in.Goals as goal

pub returns-in-Ok-clause-stops : goal.returns-in-Ok-clause-stops
returns-in-Ok-clause-stops g c = λ told. c.subgroup_of.ensures.stops (g.F.Shelf.state c.args.shelf.now).holds c.args.name.now
    (rw c.deref.ensures.value (c.in-Ok.ensures.held told))

pub returns-in-Ok-clause-counted : goal.returns-in-Ok-clause-counted
returns-in-Ok-clause-counted g c = c.subgroup_of.ensures.unfailed (g.F.Shelf.state c.args.shelf.now) (g.F.Shelf.state c.load_text.new.shelf)
