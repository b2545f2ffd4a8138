use Rattle.std.proofs.Common.{arith}
use Rattle.kb_compose.proofs.SetSteps.{few_places}
use Rattle.kb_compose.proofs.counting.have_more_sets.Goals as goal

pub returns-then-places-limit-clause-few : goal.returns-then-places-limit-clause-few
returns-then-places-limit-clause-few c = λ no.
    few_places c.args.places.now c.args.limit (omega (arith, c.if-places-limit.true))
