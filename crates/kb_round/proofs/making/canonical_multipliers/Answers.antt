use Rattle.kb_round.proofs.CanonicalForms.{canonical_forms, multiplier_forms}
use Rattle.kb_round.proofs.making.canonical_multipliers.Goals as goal

pub returns-in_ok-canonical_forms-in-Ok-clause-multiply : goal.returns-in_ok-canonical_forms-in-Ok-clause-multiply
returns-in_ok-canonical_forms-in-Ok-clause-multiply g c =
    let given = c.args.differences.now in
    let explored = c.in-Ok.explored in
    multiplier_forms given.group given.words c.args.acceptor.now explored.labelled explored.targets.items
    c.in_ok-canonical_forms-in-Ok.field-0.items c.in-Ok.ensures.multipliers c.in_ok-canonical_forms-in-Ok.ensures

pub returns-in_ok-canonical_forms-in-Ok-clause-canonical : goal.returns-in_ok-canonical_forms-in-Ok-clause-canonical
returns-in_ok-canonical_forms-in-Ok-clause-canonical g c = canonical_forms c.in_ok-canonical_forms-in-Ok.ensures
