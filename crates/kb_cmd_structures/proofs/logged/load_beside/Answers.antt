use Rattle.std.proofs.Common.{sym, subst}
use Rattle.kb_task.specs.Loads.{Files}
use Rattle.kb_task.proofs.LoadEnds.{same_files}
use Rattle.kb_cmd_structures.specs.ByLog.{EndsAtLogged, HoldLogged, at_log}
use Rattle.kb_cmd_structures.specs.Logged.{AreLogged}
use Rattle.kb_cmd_structures.proofs.LoadRuns.{counted_along, err_with, ok_with, told_after}
use Rattle.kb_cmd_structures.proofs.logged.load_beside.Goals as goal

pub returns-in-Ok-clause-holds : goal.returns-in-Ok-clause-holds
returns-in-Ok-clause-holds g c = λ told group.
    let loads = c.log_beside.ensures.only_loads in
    let files = same_files loads in
    let Logs : Files → Type 0 = λ f. HoldLogged f c.args.file.now c.args.presentation c.in-Ok.log in
    let there = subst Logs (sym files) (record { group = group; log_is = c.in-Ok.ensures.holds told }) in
    ok_with c.load_justified.result (c.load_justified.ensures.holds (told_after loads told) there)
    (λ logged held. let P : Files → Type 0 = λ f. AreLogged f c.args.file.now logged in subst P files held)

pub returns-in-Ok-clause-ends : goal.returns-in-Ok-clause-ends
returns-in-Ok-clause-ends g c = λ told group.
    let loads = c.log_beside.ensures.only_loads in
    let files = same_files loads in
    let Logs : Files → Type 0 = λ f. HoldLogged f c.args.file.now c.args.presentation c.in-Ok.log in
    let there = subst Logs (sym files) (record { group = group; log_is = c.in-Ok.ensures.holds told }) in
    err_with c.load_justified.result (c.load_justified.ensures.ends (told_after loads told) there)
    (λ status ends. let P : Files → Type 0 = λ f. EndsAtLogged f c.args.file.now status in subst P files ends)

pub returns-in-Ok-clause-fault : goal.returns-in-Ok-clause-fault
returns-in-Ok-clause-fault g c =
    err_with c.load_justified.result c.load_justified.ensures.fault
    (λ status counted.
    counted_along (g.F.Shelf.state c.args.shelf.now) (g.F.Shelf.state c.log_beside.new.shelf) (g.F.Shelf.state c.load_justified.new.shelf)
    c.log_beside.ensures.only_loads status counted)

pub returns-in-Err-clause-ends : goal.returns-in-Err-clause-ends
returns-in-Err-clause-ends g c = λ told group. at_log group (c.in-Err.ensures.ends told)
