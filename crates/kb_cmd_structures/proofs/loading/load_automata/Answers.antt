use Rattle.std.proofs.Common.{subst}
use Rattle.kb_task.specs.Loads.{Files}
use Rattle.kb_task.proofs.LoadEnds.{same_files}
use Rattle.kb_cmd_structures.specs.Loaded.{EndsAtMultiplier, HoldMultipliers, at_acceptor, at_multiplier}
use Rattle.kb_cmd_structures.proofs.LoadRuns.{counted_along, told_after}
use Rattle.kb_cmd_structures.proofs.loading.load_automata.Goals as goal

pub returns-in-Ok-multipliers_beside-clause-holds : goal.returns-in-Ok-multipliers_beside-clause-holds
returns-in-Ok-multipliers_beside-clause-holds g c = λ told group.
    let loads = c.acceptor_beside.ensures.only_loads in
    let At : Files → Type 0 = λ files.
    HoldMultipliers files c.args.file.now c.args.presentation c.in-Ok-multipliers_beside.multipliers.items in
    record {
      group = group;
      accepts = c.in-Ok.ensures.holds told;
      multiply = subst At (same_files loads) (c.in-Ok-multipliers_beside.ensures.holds (told_after loads told));
      one_each = c.in-Ok-multipliers_beside.ensures.pairs.one_each;
    }

pub returns-in-Err-multipliers_beside-clause-ends : goal.returns-in-Err-multipliers_beside-clause-ends
returns-in-Err-multipliers_beside-clause-ends g c = λ told.
    let loads = c.acceptor_beside.ensures.only_loads in
    let At : Files → Type 0 = λ files. EndsAtMultiplier files c.args.file.now c.args.presentation c.in-Err-multipliers_beside.status in
    at_multiplier (c.in-Ok.ensures.holds told)
    (subst At (same_files loads) (c.in-Err-multipliers_beside.ensures.ends (told_after loads told)))

pub returns-in-Err-multipliers_beside-clause-fault : goal.returns-in-Err-multipliers_beside-clause-fault
returns-in-Err-multipliers_beside-clause-fault g c =
    counted_along (g.F.Shelf.state c.args.shelf.now) (g.F.Shelf.state c.acceptor_beside.new.shelf)
    (g.F.Shelf.state c.multipliers_beside.new.shelf) c.acceptor_beside.ensures.only_loads c.in-Err-multipliers_beside.status
    c.in-Err-multipliers_beside.ensures.fault

pub returns-in-Err-clause-ends : goal.returns-in-Err-clause-ends
returns-in-Err-clause-ends g c = λ told. at_acceptor (c.in-Err.ensures.ends told)
