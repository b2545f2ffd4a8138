use Rattle.std.proofs.Common.{◌≡◌, ℕ, List, ap, subst}
use Rattle.kb_io.specs.Outside.{Outside, outside}
use Rattle.kb_io.specs.States.{ShelfState, SinkState}
use Rattle.kb_cmd_structures.specs.Given.{CheckGiven}
use Rattle.kb_cmd_structures.specs.Gpaxioms.{Finds, GpaxiomsMayStore}
use Rattle.kb_cmd_structures.specs.Loaded.{EndsAtFile, HoldStructure}
use Rattle.kb_cmd_structures.proofs.FoundLemmas.{found_differ, found_faultless, found_may}
use Rattle.kb_cmd_structures.proofs.RunLemmas.{nothing-run, run-at_file, run-loaded, run_found}
use Rattle.kb_cmd_structures.proofs.gpaxioms.run_by_completion.Goals as goal

pub show-requires-clause-faultless : goal.show-requires-clause-faultless
show-requires-clause-faultless g c = found_faultless c.in-Ok-find.ensures

pub show-requires-clause-differ : goal.show-requires-clause-differ
show-requires-clause-differ g c = found_differ c.in-Ok-find.ensures

pub returns-in-Ok-find : goal.returns-in-Ok-find
returns-in-Ok-find g c = λ input.
    let given : CheckGiven = c.args.task.now in
    let shelf : ShelfState = g.F.Shelf.state c.args.shelf.now in
    let read : ShelfState = g.F.Shelf.state c.load_structure.new.shelf in
    let output : SinkState = g.O.Sink.state c.args.out.now in
    let after : Outside = outside (g.F.Shelf.state c.show.new.shelf) input (g.O.Sink.state c.show.new.out) in
    let loaded = c.in-Ok.loaded in
    let file : c.task.inside.file ≡ given.file = ap (λ (it : CheckGiven). it.file) c.task.view_is in
    run-loaded (Finds given) (GpaxiomsMayStore given) given.file shelf read input output c.load_structure.ensures.only_loads loaded.presentation
    loaded.acceptor loaded.multipliers.items after c.show.result
    (λ told. subst (λ (name : List ℕ). HoldStructure shelf.holds name loaded.presentation loaded.acceptor loaded.multipliers.items) file
    (c.in-Ok.ensures.holds told))
    (run_found c.in-Ok-find.finding (Finds given loaded.presentation loaded.acceptor loaded.multipliers.items) (GpaxiomsMayStore given)
    c.in-Ok-find.ensures (found_may c.in-Ok-find.ensures) (c.show.ensures input))

pub returns-in-Ok : goal.returns-in-Ok
returns-in-Ok g c = λ input.
    let given : CheckGiven = c.args.task.now in
    let shelf : ShelfState = g.F.Shelf.state c.args.shelf.now in
    let read : ShelfState = g.F.Shelf.state c.load_structure.new.shelf in
    let output : SinkState = g.O.Sink.state c.args.out.now in
    let loaded = c.in-Ok.loaded in
    let file : c.task.inside.file ≡ given.file = ap (λ (it : CheckGiven). it.file) c.task.view_is in
    run-loaded (Finds given) (GpaxiomsMayStore given) given.file shelf read input output c.load_structure.ensures.only_loads loaded.presentation
    loaded.acceptor loaded.multipliers.items (outside read input output) _
    (λ told. subst (λ (name : List ℕ). HoldStructure shelf.holds name loaded.presentation loaded.acceptor loaded.multipliers.items) file
    (c.in-Ok.ensures.holds told))
    (nothing-run (Finds given loaded.presentation loaded.acceptor loaded.multipliers.items) (GpaxiomsMayStore given) read input output)

pub returns : goal.returns
returns g c = λ input.
    let given : CheckGiven = c.args.task.now in
    let shelf : ShelfState = g.F.Shelf.state c.args.shelf.now in
    let read : ShelfState = g.F.Shelf.state c.load_structure.new.shelf in
    let output : SinkState = g.O.Sink.state c.args.out.now in
    let file : c.task.inside.file ≡ given.file = ap (λ (it : CheckGiven). it.file) c.task.view_is in
    run-at_file (Finds given) (GpaxiomsMayStore given) given.file shelf read input output c.load_structure.ensures.only_loads c.in-Err.status
    (λ told. subst (λ (name : List ℕ). EndsAtFile shelf.holds name c.in-Err.status) file (c.in-Err.ensures.ends told))
    (c.in-Err.ensures.fault input output)
