use Rattle.kb_task.proofs.RunLemmas.{run-ends, unchanged-loads}
use Rattle.kb_cmd_automata.specs.Counted.{CountIsPrinted}
use Rattle.kb_cmd_automata.specs.Loaded.{at_load, loaded}
use Rattle.kb_cmd_automata.proofs.RunLemmas.{run-lines}
use Rattle.kb_cmd_automata.proofs.counting.CountAccepted.run.Goals as goal

pub returns-in-Ok : goal.returns-in-Ok
returns-in-Ok g c =
    run-lines (g.F.Shelf.state c.args.shelf.now) (g.F.Shelf.state c.load_automaton.new.shelf) (g.I.Source.state c.args.input.now)
    (g.O.Sink.state c.args.out.now) c.load_automaton.ensures.only_loads c.print_count.result
    (CountIsPrinted c.in-Ok.given.fsa c.args.self.lengths)
    (g.O.Sink.state c.print_count.new.out) c.print_count.ensures.printed c.print_count.ensures.goes_on
    (c.print_count.ensures.fault (g.F.Shelf.state c.load_automaton.new.shelf) (g.I.Source.state c.args.input.now))
    (λ told means. loaded (c.in-Ok.ensures.holds told.shelf) c.in-Ok.ensures.kind means)

pub returns-in-Err : goal.returns-in-Err
returns-in-Err g c =
    let input = g.I.Source.state c.args.input.now in
    let output = g.O.Sink.state c.args.out.now in
    run-ends (g.F.Shelf.state c.args.shelf.now) (g.F.Shelf.state c.load_automaton.new.shelf) input output
    c.load_automaton.ensures.only_loads c.in-Err.status (c.in-Err.ensures.fault input output)
    (λ told. at_load (c.in-Err.ensures.ends told.shelf)
    (unchanged-loads (g.F.Shelf.state c.args.shelf.now) (g.F.Shelf.state c.load_automaton.new.shelf) input output c.load_automaton.ensures.only_loads))
