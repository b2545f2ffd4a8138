use Rattle.std.proofs.Common.{◌≡◌, false, length, replicate, ap}
use Rattle.kb_fsaleast.proofs.Steps.{Progress-begun}
use Rattle.kb_fsaleast.proofs.classes.start.Goals as goal

pub returns-clause-progress : goal.returns-clause-progress
returns-clause-progress c =
    let count = length c.rows.result.now in
    let marks : c.in_ok-vec.field-0.items ≡ replicate count false = c.in_ok-vec.ensures.items_if_clones_equal (λ y e. e) in
    let added = rw (c.new.ensures.items, c.new-2.ensures.items, marks, c.initial.ensures) at c.in_ok-add.ensures in
    Progress-begun c.args.nfa.now count (ap length c.rows.ensures.rows) c.add.new.classes.members.items c.add.new.classes.origins.items
    c.add.new.classes.seen.items added
