use Rattle.kb_task.proofs.loading.presentations.look_at_group.Goals as goal

pub returns-in-ShortLex-clause-stops : goal.returns-in-ShortLex-clause-stops
returns-in-ShortLex-clause-stops c = λ files name holds. c.look_for_inverses.ensures.stops files name c.in-ShortLex.is holds
