use Rattle.kb_task.proofs.loading.presentations.group_in.Goals as goal

pub returns-in-Err-look_at_group-clause-counted : goal.returns-in-Err-look_at_group-clause-counted
returns-in-Err-look_at_group-clause-counted g c =
    c.in-Err-look_at_group.ensures.unfailed (g.F.Shelf.state c.args.shelf.now) (g.F.Shelf.state c.presentation_in.new.shelf)
