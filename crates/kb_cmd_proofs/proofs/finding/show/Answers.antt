use Rattle.std.proofs.Common.{◌≡◌, List, ℕ, refl, subst}
use Rattle.kb_io.specs.Outside.{outside}
use Rattle.kb_io.specs.States.{ShelfState, SinkState}
use Rattle.kb_task.specs.Lines.{LineIsWritten}
use Rattle.kb_task.specs.Stores.{Text, texts_of}
use Rattle.kb_task.specs.declared.status.Status.{Status}
use Rattle.kb_cmd_proofs.specs.Shown.{Found, HasParts}
use Rattle.kb_cmd_proofs.proofs.ShowRuns.{StoresAll, run-shows, run-stops_at_store, other-no_yes}
use Rattle.kb_cmd_proofs.proofs.finding.show.Goals as goal

pub returns-in-Yes : goal.returns-in-Yes
returns-in-Yes g c = λ input.
    let found : Found = HasParts c.args.finding in
    let texts : List Text = texts_of c.args.finding.files.items in
    let line : List ℕ = c.args.finding.line.items in
    let old : ShelfState = g.F.Shelf.state c.args.shelf.now in
    let new : ShelfState = g.F.Shelf.state c.store_texts.new.shelf in
    let before : SinkState = g.O.Sink.state c.args.out.now in
    let after : SinkState = g.O.Sink.state c.print_line.new.out in
    let is : c.deref.result.now ≡ line = c.deref.ensures.value in
    let Written : List ℕ → Type 0 = λ l. LineIsWritten l c.args.finding.status before after c.print_line.result in
    let Stored : Status → Type 0 = λ s. StoresAll texts (outside old input before) (outside new input before) s in
    let parts : HasParts c.args.finding c.args.finding.status texts line = record { ends = refl; stores = refl; writes = refl } in
    run-shows found parts old new input before after c.print_line.result (subst Stored c.in-Yes.is (c.store_texts.ensures input before))
    (λ told. subst Written is (c.print_line.ensures.written told)) (c.print_line.ensures.fault new input) c.print_line.ensures.goes_on

pub returns-in_default : goal.returns-in_default
returns-in_default g c = λ input.
    let found : Found = HasParts c.args.finding in
    let output : SinkState = g.O.Sink.state c.args.out.now in
    let parts : HasParts c.args.finding c.args.finding.status (texts_of c.args.finding.files.items) c.args.finding.line.items =
    record { ends = refl; stores = refl; writes = refl } in
    run-stops_at_store found parts (outside (g.F.Shelf.state c.args.shelf.now) input output)
    (outside (g.F.Shelf.state c.store_texts.new.shelf) input output) c.store_texts.result
    (other-no_yes c.store_texts.result c.in_default.not-Yes) (c.store_texts.ensures input output)
