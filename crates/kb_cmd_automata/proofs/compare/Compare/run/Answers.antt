use Rattle.std.proofs.Common.{subst}
use Rattle.kb_io.specs.Outside.{outside}
use Rattle.kb_task.specs.Automata.{HoldsAutomaton, IsSecondFault}
use Rattle.kb_task.specs.Loads.{EndsAtLoad}
use Rattle.kb_task.specs.declared.loading.automata.Kind.TheVariants.{WordsOrPairs}
use Rattle.kb_task.proofs.LoadEnds.{same_files}
use Rattle.kb_task.proofs.RunLemmas.{counted_after, goes_on-loads, loads-along, run-ends, told-later, unchanged-loads}
use Rattle.kb_cmd_automata.specs.Compare.{ComparisonIsPrinted}
use Rattle.kb_cmd_automata.specs.Loaded.{at_first, at_second, both}
use Rattle.kb_cmd_automata.proofs.RunLemmas.{run-lines}
use Rattle.kb_cmd_automata.proofs.compare.Compare.run.Goals as goal

pub returns-in-Err : goal.returns-in-Err
returns-in-Err g c =
    let input = g.I.Source.state c.args.input.now in
    let output = g.O.Sink.state c.args.out.now in
    run-ends (g.F.Shelf.state c.args.shelf.now) (g.F.Shelf.state c.load_automaton.new.shelf) input output
    c.load_automaton.ensures.only_loads c.in-Err.status (c.in-Err.ensures.fault input output)
    (λ told. at_first (c.in-Err.ensures.ends told.shelf)
    (unchanged-loads (g.F.Shelf.state c.args.shelf.now) (g.F.Shelf.state c.load_automaton.new.shelf) input output c.load_automaton.ensures.only_loads))

pub returns-in-Ok-load_second : goal.returns-in-Ok-load_second
returns-in-Ok-load_second g c =
    let input = g.I.Source.state c.args.input.now in
    let output = g.O.Sink.state c.args.out.now in
    let before = g.F.Shelf.state c.args.shelf.now in
    let between = g.F.Shelf.state c.load_automaton.new.shelf in
    let loads = loads-along c.load_automaton.ensures.only_loads c.load_second.ensures.only_loads in
    let goes_on = goes_on-loads before between input output c.load_automaton.ensures.only_loads in
    run-lines before (g.F.Shelf.state c.load_second.new.shelf) input output loads c.print_comparison.result
    (ComparisonIsPrinted c.in-Ok.first.names c.in-Ok.first.fsa c.in-Ok-load_second.second c.args.self.max_states)
    (g.O.Sink.state c.print_comparison.new.out) c.print_comparison.ensures.printed c.print_comparison.ensures.goes_on
    (c.print_comparison.ensures.fault (g.F.Shelf.state c.load_second.new.shelf) input)
    (λ told means. both (c.in-Ok.ensures.holds told.shelf) c.in-Ok.ensures.kind
    (subst (λ files. HoldsAutomaton files c.args.self.two c.in-Ok.first.names c.in-Ok-load_second.second) (same_files c.load_automaton.ensures.only_loads)
    (c.in-Ok-load_second.ensures.holds (told-later goes_on told).shelf))
    c.in-Ok-load_second.ensures.alphabet means)

pub returns : goal.returns
returns g c =
    let input = g.I.Source.state c.args.input.now in
    let output = g.O.Sink.state c.args.out.now in
    let before = g.F.Shelf.state c.args.shelf.now in
    let between = g.F.Shelf.state c.load_automaton.new.shelf in
    let after = g.F.Shelf.state c.load_second.new.shelf in
    let status = c.in-Err-load_second.status in
    let loads = loads-along c.load_automaton.ensures.only_loads c.load_second.ensures.only_loads in
    let goes_on = goes_on-loads before between input output c.load_automaton.ensures.only_loads in
    run-ends before after input output loads status
    (counted_after (outside before input output) (outside between input output) (outside after input output) status goes_on
    (c.in-Err-load_second.ensures.fault input output))
    (λ told. at_second (c.in-Ok.ensures.holds told.shelf) c.in-Ok.ensures.kind
    (subst (λ files. EndsAtLoad (IsSecondFault WordsOrPairs c.in-Ok.first.names c.in-Ok.first.fsa.alphabet files c.args.self.two) c.args.self.two status)
    (same_files c.load_automaton.ensures.only_loads) (c.in-Err-load_second.ensures.ends (told-later goes_on told).shelf))
    (unchanged-loads before after input output loads))
