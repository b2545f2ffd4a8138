use Rattle.kb_task.proofs.loading.presentations.shortlex_in.Goals as goal

pub returns-in-Err-look_at_order-clause-counted : goal.returns-in-Err-look_at_order-clause-counted
returns-in-Err-look_at_order-clause-counted g c =
    c.in-Err-look_at_order.ensures.unfailed (g.F.Shelf.state c.args.shelf.now) (g.F.Shelf.state c.presentation_in.new.shelf)
