use Rattle.kb_fsafile.proofs.reached.reached.Goals as goal

pub returns-in-Ok-clause-part : goal.returns-in-Ok-clause-part
returns-in-Ok-clause-part c = (c.in-Ok.exploration.states.keys, c.in-Ok.exploration.origins.items, c.in-Ok.ensures.explored)
