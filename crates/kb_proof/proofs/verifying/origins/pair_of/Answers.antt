use Rattle.kb_proof.proofs.verifying.origins.pair_of.Goals as goal

pub returns-then-have-clause-none : goal.returns-then-have-clause-none
returns-then-have-clause-none c =
    c.have.ensures.yes c.args.relations.now c.args.earlier.now c.requires c.if-have.true

pub returns-then-is_killed_alone-clause-none : goal.returns-then-is_killed_alone-clause-none
returns-then-is_killed_alone-clause-none c =
    c.is_killed_alone.ensures.yes c.if-is_killed_alone.true c.args.relations.now
