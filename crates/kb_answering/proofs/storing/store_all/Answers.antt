use Rattle.std.proofs.Common.{List, subst}
use Rattle.kb_io.specs.Outside.{outside}
use Rattle.kb_task.specs.Stores.{Text, texts_of}
use Rattle.kb_task.specs.declared.status.Status.{Status}
use Rattle.kb_answering.proofs.StoreRuns.{StoresAll, other-no_yes}
use Rattle.kb_answering.proofs.storing.store_all.Goals as goal

pub returns-in-Yes-clause-ok : goal.returns-in-Yes-clause-ok
returns-in-Yes-clause-ok g c = λ input output.
    let texts : List Text = texts_of c.args.files.items in
    let before = outside (g.F.Shelf.state c.args.shelf.now) input output in
    let after = outside (g.F.Shelf.state c.store_texts.new.shelf) input output in
    subst (λ (s : Status). StoresAll texts before after s) c.in-Yes.is (c.store_texts.ensures input output)

pub returns-in_default-clause-other : goal.returns-in_default-clause-other
returns-in_default-clause-other g c = other-no_yes c.in_default.not-Yes
