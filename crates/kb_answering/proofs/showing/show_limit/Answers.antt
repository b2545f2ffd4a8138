use Rattle.std.proofs.Common.{◌≡◌, inr, List, ℕ, subst}
use Rattle.kb_io.specs.Outside.{outside}
use Rattle.kb_io.specs.States.{ShelfState, SinkState}
use Rattle.kb_task.specs.Lines.{LineIsWritten}
use Rattle.kb_task.specs.Stores.{Text, texts_of}
use Rattle.kb_task.specs.declared.status.Status.TheVariants.{Undecided}
use Rattle.kb_answering.specs.Answers.{Own, Shows}
use Rattle.kb_answering.proofs.StoreRuns.{run-shows, run-stops_at_store}
use Rattle.kb_answering.proofs.showing.show_limit.Goals as goal

pub returns-in-Ok : goal.returns-in-Ok
returns-in-Ok g c = λ parts input are_shown.
    let own : Own = g.C.Concludes.own c.args.command.now in
    let shows : Shows = g.C.Concludes.shows c.args.command.now in
    let MayStore : List ℕ → Type 0 = g.C.Concludes.may_store c.args.command.now in
    let texts : List Text = texts_of c.args.shown.files.items in
    let line : List ℕ = c.args.shown.line.items in
    let old : ShelfState = g.F.Shelf.state c.args.shelf.now in
    let new : ShelfState = g.F.Shelf.state c.store_all.new.shelf in
    let before : SinkState = g.O.Sink.state c.args.out.now in
    let after : SinkState = g.O.Sink.state c.print_line.new.out in
    let is : c.deref.result.now ≡ line = c.deref.ensures.value in
    let Written : List ℕ → Type 0 = λ l. LineIsWritten l (Undecided c.args.shown.limit) before after c.print_line.result in
    run-shows own shows parts MayStore texts c.requires.may c.args.shown.limit line are_shown old new input before after c.print_line.result
    (c.in-Ok.ensures.ok input before) (λ told. subst Written is (c.print_line.ensures.written told))
    (c.print_line.ensures.fault new input) c.print_line.ensures.goes_on

pub returns : goal.returns
returns g c = λ parts input are_shown.
    let own : Own = g.C.Concludes.own c.args.command.now in
    let shows : Shows = g.C.Concludes.shows c.args.command.now in
    let MayStore : List ℕ → Type 0 = g.C.Concludes.may_store c.args.command.now in
    let texts : List Text = texts_of c.args.shown.files.items in
    let output : SinkState = g.O.Sink.state c.args.out.now in
    run-stops_at_store own shows parts MayStore texts c.requires.may (inr (c.args.shown.limit, c.args.shown.line.items, are_shown))
    (outside (g.F.Shelf.state c.args.shelf.now) input output) (outside (g.F.Shelf.state c.store_all.new.shelf) input output)
    c.in-Err.status c.in-Err.ensures.other (c.in-Err.ensures.err input output)
