use Rattle.kb_proof.proofs.Naming.{alone_fault}
use Rattle.kb_proof.proofs.verifying.origins.is_killed_alone.Goals as goal

pub returns-in-Killed-clause-yes : goal.returns-in-Killed-clause-yes
returns-in-Killed-clause-yes c = λ alone relations.
    alone_fault c.has_another_factor.result relations c.args.lines.now c.in-Killed.number c.in-Killed.is
    c.has_another_factor.ensures.1 alone
