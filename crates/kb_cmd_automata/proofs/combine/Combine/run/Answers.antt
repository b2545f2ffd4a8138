use Rattle.std.proofs.Common.{refl, ap, subst, Err}
use Rattle.kb_io.specs.Outside.{outside}
use Rattle.kb_task.specs.Automata.{HoldsAutomaton, IsSecondFault}
use Rattle.kb_task.specs.Loads.{EndsAtLoad}
use Rattle.kb_task.specs.declared.status.Limit.TheVariants.{States}
use Rattle.kb_task.proofs.LoadEnds.{same_files}
use Rattle.kb_task.proofs.RunLemmas.{counted_after, goes_on-loads, loads-along, run-ends, told-later, unchanged-loads}
use Rattle.kb_cmd_automata.specs.Loaded.{at_first, at_second, both}
use Rattle.kb_cmd_automata.specs.Make.{IsMadeOfTwo, ExceedsCombined, combined_kind}
use Rattle.kb_cmd_automata.specs.MakeLaws.{combined-known}
use Rattle.kb_cmd_automata.proofs.MakeLemmas.{made-same}
use Rattle.kb_cmd_automata.proofs.RunLemmas.{run-stores, run-limit}
use Rattle.kb_cmd_automata.proofs.combine.Combine.run.Goals as goal

pub returns-in-Err : goal.returns-in-Err
returns-in-Err g c =
    let input = g.I.Source.state c.args.input.now in
    let output = g.O.Sink.state c.args.out.now in
    run-ends (g.F.Shelf.state c.args.shelf.now) (g.F.Shelf.state c.load_automaton.new.shelf) input output
    c.load_automaton.ensures.only_loads c.in-Err.status (c.in-Err.ensures.fault input output)
    (λ told. at_first (rw c.kind-kind.ensures at (c.in-Err.ensures.ends told.shelf))
    (unchanged-loads (g.F.Shelf.state c.args.shelf.now) (g.F.Shelf.state c.load_automaton.new.shelf) input output c.load_automaton.ensures.only_loads))

pub returns-in-Err-load_second : goal.returns-in-Err-load_second
returns-in-Err-load_second g c =
    let input = g.I.Source.state c.args.input.now in
    let output = g.O.Sink.state c.args.out.now in
    let before = g.F.Shelf.state c.args.shelf.now in
    let between = g.F.Shelf.state c.load_automaton.new.shelf in
    let after = g.F.Shelf.state c.load_second.new.shelf in
    let status = c.in-Err-load_second.status in
    let loads = loads-along c.load_automaton.ensures.only_loads c.load_second.ensures.only_loads in
    let goes_on = goes_on-loads before between input output c.load_automaton.ensures.only_loads in
    run-ends before after input output loads status
    (counted_after (outside before input output) (outside between input output) (outside after input output) status goes_on
    (c.in-Err-load_second.ensures.fault input output))
    (λ told. at_second (c.in-Ok.ensures.holds told.shelf) (rw c.kind-kind.ensures at c.in-Ok.ensures.kind)
    (subst (λ files. EndsAtLoad (IsSecondFault (combined_kind c.args.self.operation) c.in-Ok.first.names c.in-Ok.first.fsa.alphabet files c.args.self.two)
    c.args.self.two status) (same_files c.load_automaton.ensures.only_loads)
    (rw c.kind-kind.ensures at (c.in-Err-load_second.ensures.ends (told-later goes_on told).shelf)))
    (unchanged-loads before after input output loads))

pub returns-in-Ok-combined : goal.returns-in-Ok-combined
returns-in-Ok-combined g c =
    let input = g.I.Source.state c.args.input.now in
    let output = g.O.Sink.state c.args.out.now in
    let before = g.F.Shelf.state c.args.shelf.now in
    let between = g.F.Shelf.state c.load_automaton.new.shelf in
    let loads = loads-along c.load_automaton.ensures.only_loads c.load_second.ensures.only_loads in
    let goes_on = goes_on-loads before between input output c.load_automaton.ensures.only_loads in
    let one = c.in-Ok.first.fsa in
    let two = c.in-Ok-load_second.second in
    run-stores before (g.F.Shelf.state c.load_second.new.shelf) input output loads c.store_canonical.result
    (IsMadeOfTwo c.args.self.operation one two) (ExceedsCombined c.args.self.operation c.args.self.max_states one two) c.args.self.out c.in-Ok.first.names
    c.in-Ok-combined.made (g.F.Shelf.state c.store_canonical.new.shelf) (c.store_canonical.ensures input output)
    (made-same (combined-known c.args.self.operation one two) c.in-Ok-combined.made (c.in-Ok-combined.ensures.alphabet, c.in-Ok-combined.ensures.language))
    (λ limit exceeds. c.in-Ok-combined.ensures.few refl exceeds.1) (λ name is. is)
    (λ told means. both (c.in-Ok.ensures.holds told.shelf) (rw c.kind-kind.ensures at c.in-Ok.ensures.kind)
    (subst (λ files. HoldsAutomaton files c.args.self.two c.in-Ok.first.names two) (same_files c.load_automaton.ensures.only_loads)
    (c.in-Ok-load_second.ensures.holds (told-later goes_on told).shelf))
    c.in-Ok-load_second.ensures.alphabet means)

pub returns-in-Err-TooManyStates : goal.returns-in-Err-TooManyStates
returns-in-Err-TooManyStates g c =
    let input = g.I.Source.state c.args.input.now in
    let output = g.O.Sink.state c.args.out.now in
    let before = g.F.Shelf.state c.args.shelf.now in
    let between = g.F.Shelf.state c.load_automaton.new.shelf in
    let loads = loads-along c.load_automaton.ensures.only_loads c.load_second.ensures.only_loads in
    let goes_on = goes_on-loads before between input output c.load_automaton.ensures.only_loads in
    let one = c.in-Ok.first.fsa in
    let two = c.in-Ok-load_second.second in
    run-limit before (g.F.Shelf.state c.load_second.new.shelf) input output loads c.print_limit.result
    (IsMadeOfTwo c.args.self.operation one two) (ExceedsCombined c.args.self.operation c.args.self.max_states one two) c.args.self.out c.in-Ok.first.names
    (States c.construction.result) (g.O.Sink.state c.print_limit.new.out) c.print_limit.ensures.written c.print_limit.ensures.goes_on
    (c.print_limit.ensures.fault (g.F.Shelf.state c.load_second.new.shelf) input) (
      ap States c.construction.ensures,
      c.in-Err-TooManyStates.ensures.many c.in-Err-TooManyStates.field-0-0 (ap Err c.in-Err-TooManyStates.field-0-is),
    )
    (λ told means. both (c.in-Ok.ensures.holds told.shelf) (rw c.kind-kind.ensures at c.in-Ok.ensures.kind)
    (subst (λ files. HoldsAutomaton files c.args.self.two c.in-Ok.first.names two) (same_files c.load_automaton.ensures.only_loads)
    (c.in-Ok-load_second.ensures.holds (told-later goes_on told).shelf))
    c.in-Ok-load_second.ensures.alphabet means)
