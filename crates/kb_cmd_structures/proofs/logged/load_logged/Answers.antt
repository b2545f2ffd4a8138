use Rattle.std.proofs.Common.{◌≡◌, sym, subst}
use Rattle.kb_task.specs.Loads.{Files}
use Rattle.kb_task.proofs.LoadEnds.{same_files}
use Rattle.kb_cmd_structures.specs.ByLog.{EndsAtLogged}
use Rattle.kb_cmd_structures.specs.Loaded.{HoldsGroup}
use Rattle.kb_cmd_structures.specs.Logged.{AreLogged}
use Rattle.kb_cmd_structures.proofs.LoadRuns.{counted_along, err_with, held_group, ok_with, told_after}
use Rattle.kb_cmd_structures.proofs.logged.load_logged.Goals as goal

pub returns-in-Ok-load_group-clause-holds : goal.returns-in-Ok-load_group-clause-holds
returns-in-Ok-load_group-clause-holds g c = λ told.
    let loads = c.load_group.ensures.only_loads in
    let files = same_files loads in
    let named : c.in-Ok.name ≡ c.args.file.now = c.in-Ok.ensures in
    let presentation = c.in-Ok-load_group.presentation in
    let group = held_group named (c.in-Ok-load_group.ensures.holds told) c.in-Ok-load_group.ensures.shortlex c.in-Ok-load_group.ensures.group in
    let Groups : Files → Type 0 = λ f. HoldsGroup f c.args.file.now presentation in
    let there = subst Groups (sym files) group in
    ok_with c.load_beside.result (c.load_beside.ensures.holds (told_after loads told) there)
    (λ logged held. let P : Files → Type 0 = λ f. AreLogged f c.args.file.now logged in subst P files held)

pub returns-in-Ok-load_group-clause-ends : goal.returns-in-Ok-load_group-clause-ends
returns-in-Ok-load_group-clause-ends g c = λ told.
    let loads = c.load_group.ensures.only_loads in
    let files = same_files loads in
    let named : c.in-Ok.name ≡ c.args.file.now = c.in-Ok.ensures in
    let presentation = c.in-Ok-load_group.presentation in
    let group = held_group named (c.in-Ok-load_group.ensures.holds told) c.in-Ok-load_group.ensures.shortlex c.in-Ok-load_group.ensures.group in
    let Groups : Files → Type 0 = λ f. HoldsGroup f c.args.file.now presentation in
    let there = subst Groups (sym files) group in
    err_with c.load_beside.result (c.load_beside.ensures.ends (told_after loads told) there)
    (λ status ends. let P : Files → Type 0 = λ f. EndsAtLogged f c.args.file.now status in subst P files ends)

pub returns-in-Ok-load_group-clause-fault : goal.returns-in-Ok-load_group-clause-fault
returns-in-Ok-load_group-clause-fault g c =
    err_with c.load_beside.result c.load_beside.ensures.fault
    (λ status counted.
    counted_along (g.F.Shelf.state c.args.shelf.now) (g.F.Shelf.state c.load_group.new.shelf) (g.F.Shelf.state c.load_beside.new.shelf)
    c.load_group.ensures.only_loads status counted)
