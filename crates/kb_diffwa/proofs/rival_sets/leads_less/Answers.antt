use Rattle.std.proofs.Common.{◌≡◌, true, get_or, sym, ap, ◌∙◌}
use Rattle.kb_diffwa.specs.RivalSets.{all_compared, any_less, no_comparisons, outcomes}
use Rattle.kb_diffwa.proofs.AllCompared.{outcome_at}
use Rattle.kb_diffwa.proofs.EarlyShown.{leads_less_at}
use Rattle.kb_diffwa.proofs.rival_sets.leads_less.Goals as goal

pub returns-then-any_less : goal.returns-then-any_less
returns-then-any_less c =
    let n = c.args.n in
    let a = c.args.a in
    let comparisons = c.args.rivals.comparisons in
    let pairs = c.pairs_from-b-items in
    let b = (get_or pairs.result.now c.loop-b.b-index (0, 0)).0 in
    let looked_up = ap (λ table. get_or table c.outcome_place.result no_comparisons) c.outcomes-outcomes.ensures
    ∙ ap (λ place. get_or (outcomes comparisons) place no_comparisons) c.outcome_place.ensures
    ∙ outcome_at n comparisons a b no_comparisons in
    let less : any_less (all_compared n comparisons a b) ≡ true =
    sym (ap any_less looked_up) ∙ (sym c.any_less.ensures ∙ c.if-any_less.true) in
    leads_less_at n a c.args.steps.now c.args.rivals pairs.result.now c.loop-b.b-index (0, 0) pairs.ensures
    c.loop-b-test.true c.if-target-eq1.true less
