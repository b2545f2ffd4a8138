use Rattle.kb_axioms.proofs.Presented.{first_of_all}
use Rattle.kb_axioms.proofs.checking.answer_of.Goals as goal

pub returns-in-True-clause-says : goal.returns-in-True-clause-says
returns-in-True-clause-says c presentation rules confluent acceptor multipliers limit shortlex plain passes says =
    (passes, rw c.in-True.is at says)

pub returns-in-Different-clause-says : goal.returns-in-Different-clause-says
returns-in-Different-clause-says c presentation rules confluent acceptor multipliers limit shortlex plain passes says =
    let different = rw c.in-Different.is at says in
    (first_of_all presentation acceptor multipliers plain limit shortlex passes c.in-Different.x c.in-Different.u c.in-Different.v different.1, different.0)

pub returns-in-Unresolved-clause-says : goal.returns-in-Unresolved-clause-says
returns-in-Unresolved-clause-says c presentation rules confluent acceptor multipliers limit shortlex plain passes says =
    let unresolved = rw c.in-Unresolved.is at says in
    (passes, unresolved.0, unresolved.1)
