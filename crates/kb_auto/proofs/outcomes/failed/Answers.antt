use Rattle.std.proofs.Common.{List, sym, ◌∙◌, ap, subst}
use Rattle.kb_kept.specs.Listed.{AreEqualitiesOver, rule_equalities}
use Rattle.kb_kept.specs.declared.equality.Equality.{Equality}
use Rattle.kb_auto.proofs.TriedAtHalt.{is_tried_at_halt, of_rule_equalities, rule_equalities_over}
use Rattle.kb_auto.proofs.outcomes.failed.Goals as goal

pub list_differences-requires-clause-over : goal.list_differences-requires-clause-over
list_differences-requires-clause-over c =
    let n = c.args.differences.now.group.n in
    let P : List Equality → Type 0 = λ l. AreEqualitiesOver n l in
    subst P (sym c.in_ok-equalities.ensures) (rule_equalities_over n c.args.rules.now.rules c.requires.letters)

pub list_differences-requires-clause-kept : goal.list_differences-requires-clause-kept
list_differences-requires-clause-kept c =
    let kept = c.requires.kept in
    (kept.0, of_rule_equalities c.args.rules.now.rules _ kept.0 c.in_ok-equalities.ensures kept.1)

pub returns : goal.returns
returns c = λ tried same keeps failed.
    let are = c.in_ok-equalities.ensures ∙ ap rule_equalities (sym same) in
    is_tried_at_halt tried c.args.differences.now keeps c.in_ok-equalities.equalities.items c.in_ok-listing.listing are
    c.in_ok-listing.ensures.equalities c.in_ok-listing.ensures.lists failed
