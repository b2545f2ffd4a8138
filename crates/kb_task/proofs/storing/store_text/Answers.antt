use Rattle.std.proofs.Common.{rules, ap, Err}
use Rattle.kb_io.specs.States.{HoldsSameBut}
use Rattle.kb_task.specs.Stores.{text_of}
use Rattle.kb_task.proofs.StoreLemmas.{run-store_fails}
use Rattle.kb_task.proofs.storing.store_text.Goals as goal

pub returns-in-Err-Failed-clause-ends : goal.returns-in-Err-Failed-clause-ends
returns-in-Err-Failed-clause-ends g c = λ rest input output.
    let before = g.F.Shelf.state c.args.shelf.now in
    let after = g.F.Shelf.state c.store.new.self in
    let others : HoldsSameBut c.args.file.name before after = search rules in
    run-store_fails (text_of c.args.file) rest before after input output c.store.ensures.goes_on others
    (c.in-Err-Failed.ensures.failed (ap Err c.in-Err-Failed.field-0-is))
