use Rattle.kb_task.specs.Automata.{IsAutomatonFault}
use Rattle.kb_task.proofs.LoadLemmas.{ends_at}
use Rattle.kb_task.proofs.loading.automata.load_language.Goals as goal

pub returns-in-Err-clause-ends : goal.returns-in-Err-clause-ends
returns-in-Err-clause-ends g c = λ told.
    ends_at (IsAutomatonFault c.args.kind (g.F.Shelf.state c.args.shelf.now).holds c.args.file) c.args.file c.in-Err.stop c.status.result c.status.ensures
    (rw c.as_str.ensures at (c.in-Err.ensures.stops told))
