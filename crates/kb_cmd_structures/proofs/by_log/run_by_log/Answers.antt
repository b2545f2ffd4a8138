use Rattle.std.proofs.Common.{◌≡◌, ℕ, List, ap, subst}
use Rattle.kb_io.specs.Outside.{Outside, outside}
use Rattle.kb_io.specs.States.{ShelfState, SinkState}
use Rattle.kb_cmd_structures.specs.ByLog.{EndsAtLogged}
use Rattle.kb_cmd_structures.specs.Given.{CheckGiven}
use Rattle.kb_cmd_structures.specs.Logged.{AreLogged}
use Rattle.kb_cmd_structures.proofs.LoggedRuns.{logged_differ, logged_faultless, run-at_logged, run-in_logged, run-unfound}
use Rattle.kb_cmd_structures.proofs.by_log.run_by_log.Goals as goal

pub show-requires-clause-faultless : goal.show-requires-clause-faultless
show-requires-clause-faultless g c = logged_faultless c.args.task.now c.in-Ok.logged c.in-Ok-find.finding c.in-Ok-find.ensures

pub show-requires-clause-differ : goal.show-requires-clause-differ
show-requires-clause-differ g c = logged_differ c.args.task.now c.in-Ok.logged c.in-Ok-find.finding c.in-Ok-find.ensures

pub returns-in-Ok-find : goal.returns-in-Ok-find
returns-in-Ok-find g c = λ input.
    let given : CheckGiven = c.args.task.now in
    let shelf : ShelfState = g.F.Shelf.state c.args.shelf.now in
    let read : ShelfState = g.F.Shelf.state c.load_logged.new.shelf in
    let output : SinkState = g.O.Sink.state c.args.out.now in
    let after : Outside = outside (g.F.Shelf.state c.show.new.shelf) input (g.O.Sink.state c.show.new.out) in
    let file : c.task.inside.file ≡ given.file = ap (λ (it : CheckGiven). it.file) c.task.view_is in
    run-in_logged given shelf read input output c.load_logged.ensures.only_loads c.in-Ok.logged c.in-Ok-find.finding after c.show.result
    (λ told. subst (λ (name : List ℕ). AreLogged shelf.holds name c.in-Ok.logged) file (c.in-Ok.ensures.holds told))
    c.in-Ok.ensures.ready c.in-Ok-find.ensures (c.show.ensures input)

pub returns-in-Ok : goal.returns-in-Ok
returns-in-Ok g c = λ input.
    let given : CheckGiven = c.args.task.now in
    let shelf : ShelfState = g.F.Shelf.state c.args.shelf.now in
    let read : ShelfState = g.F.Shelf.state c.load_logged.new.shelf in
    let output : SinkState = g.O.Sink.state c.args.out.now in
    let file : c.task.inside.file ≡ given.file = ap (λ (it : CheckGiven). it.file) c.task.view_is in
    run-unfound given shelf read input output c.load_logged.ensures.only_loads c.in-Ok.logged
    (λ told. subst (λ (name : List ℕ). AreLogged shelf.holds name c.in-Ok.logged) file (c.in-Ok.ensures.holds told))
    c.in-Ok.ensures.ready

pub returns : goal.returns
returns g c = λ input.
    let given : CheckGiven = c.args.task.now in
    let shelf : ShelfState = g.F.Shelf.state c.args.shelf.now in
    let read : ShelfState = g.F.Shelf.state c.load_logged.new.shelf in
    let output : SinkState = g.O.Sink.state c.args.out.now in
    let file : c.task.inside.file ≡ given.file = ap (λ (it : CheckGiven). it.file) c.task.view_is in
    run-at_logged given shelf read input output c.load_logged.ensures.only_loads c.in-Err.status
    (λ told. subst (λ (name : List ℕ). EndsAtLogged shelf.holds name c.in-Err.status) file (c.in-Err.ensures.ends told))
    (c.in-Err.ensures.fault input output)
