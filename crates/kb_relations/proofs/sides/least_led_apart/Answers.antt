use Rattle.std.proofs.Common.{◌≡◌, Err, ap, rules}
use Rattle.kb_explore.specs.declared.det.Det.TheVariants.{TooManyStates}
use Rattle.kb_relations.specs.Composites.CountedRelation.{compared}
use Rattle.kb_relations.proofs.Composites.{few_counted}
use Rattle.kb_relations.proofs.LedApart.{found_apart, none_apart}
use Rattle.kb_relations.proofs.sides.least_led_apart.Goals as goal

pub returns-in_err-difference-clause-many : goal.returns-in_err-difference-clause-many
returns-in_err-difference-clause-many c = λ most e.
    let same : c.in_err-difference.field-0.0 ≡ TooManyStates most = search rules in
    let many = c.in_err-difference.ensures.many most (ap Err same) in
    compared c.in_ok-left.left c.in_ok-right.right c.in_ok-left.ensures.composite c.in_ok-right.ensures.composite many.1

pub returns-clause-found : goal.returns-clause-found
returns-clause-found c followed =
    let acceptor = c.args.acceptor.now in let multipliers = c.args.multipliers.now in
    found_apart acceptor multipliers followed c.composite.ensures.acceptor c.args.relation.now.0 c.args.relation.now.1
    c.requires.left c.requires.right c.in_ok-left.left c.in_ok-right.right c.in_ok-difference.difference
    c.in_ok-left.ensures.composite c.in_ok-right.ensures.composite c.in_ok-difference.ensures.alphabet c.in_ok-difference.ensures.language
    c.in_ok-least_first.field-0 c.in_ok-least_first.ensures.found

pub returns-clause-none : goal.returns-clause-none
returns-clause-none c followed =
    let acceptor = c.args.acceptor.now in let multipliers = c.args.multipliers.now in
    none_apart acceptor multipliers followed c.composite.ensures.acceptor c.args.relation.now.0 c.args.relation.now.1
    c.requires.left c.requires.right c.in_ok-left.left c.in_ok-right.right c.in_ok-difference.difference
    c.in_ok-left.ensures.composite c.in_ok-right.ensures.composite c.in_ok-difference.ensures.alphabet c.in_ok-difference.ensures.language
    c.in_ok-least_first.field-0 c.in_ok-least_first.ensures.none

pub returns-clause-few : goal.returns-clause-few
returns-clause-few c = λ ok.
    few_counted c.args.acceptor.now c.args.multipliers.now c.args.relation.now c.args.limit c.in_ok-left.left c.in_ok-right.right
    c.in_ok-left.ensures.composite c.in_ok-right.ensures.composite (c.in_ok-left.ensures.few ok) (c.in_ok-right.ensures.few ok)
    (c.in_ok-difference.ensures.few ok)
