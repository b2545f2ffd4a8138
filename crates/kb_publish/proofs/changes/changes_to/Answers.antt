use Rattle.kb_publish.specs.Editions.{lines_by}
use Rattle.kb_publish.proofs.changes.changes_to.Goals as goal

pub returns : goal.returns
returns g c = λ version rule same.
    c.in_ok-add_live.ensures (lines_by rule version c.args.numbers.now) version rule same (c.in_ok-changes.ensures.left version rule)
