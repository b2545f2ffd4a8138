use Rattle.std.proofs.Common.{◌≡◌, get_or, ap, ◌∙◌, arith}
use Rattle.kb_compose.specs.declared.place.Place.{Place}
use Rattle.kb_compose.proofs.SetSteps.{sets_more, too_many_sets, few_counted}
use Rattle.kb_compose.proofs.counting.count_sets.Goals as goal

pub returns-then-len-limit-clause-more : goal.returns-then-len-limit-clause-more
returns-then-len-limit-clause-more c = λ yes.
    let places = c.args.places.now in
    let index = c.loop-place.place-index in
    let place = c.place-item.result in
    let same : c.in_ok-copy.field-0 ≡ (get_or places index place).pairs =
    c.in_ok-copy.ensures ∙ ap (λ (p : Place). p.pairs) c.place-item.is in
    too_many_sets places index place c.loop-place-test.true c.loop-place.sets.keys c.insert_full.new.self.keys c.in_ok-copy.field-0
    c.loop-place.invariant.are_sets same c.in_ok-insert_full.ensures.keys c.in_ok-insert_full.ensures.unique c.in_ok-insert_full.field-0.0
    c.in_ok-insert_full.ensures.stored c.args.limit (omega (arith, c.if-len-limit.true, c.len.ensures.len))

pub loop-place-preserved : goal.loop-place-preserved
loop-place-preserved c =
    let places = c.args.places.now in
    let index = c.loop-place.place-index in
    let place = c.place-item.result in
    let same : c.in_ok-copy.field-0 ≡ (get_or places index place).pairs =
    c.in_ok-copy.ensures ∙ ap (λ (p : Place). p.pairs) c.place-item.is in
    record {
      are_sets = sets_more places index place c.loop-place-test.true c.loop-place.sets.keys c.insert_full.new.self.keys c.in_ok-copy.field-0
          c.loop-place.invariant.are_sets same c.in_ok-insert_full.ensures.keys c.in_ok-insert_full.ensures.unique c.in_ok-insert_full.field-0.0
          c.in_ok-insert_full.ensures.stored;
      few = omega (arith, c.if-len-limit.false, c.len.ensures.len);
    }

pub returns-clause-few : goal.returns-clause-few
returns-clause-few c = λ no.
    few_counted c.args.places.now c.loop-place.place-index c.loop-place.sets.keys c.args.limit (omega (arith, c.loop-place-test.false))
    c.loop-place.invariant.are_sets c.loop-place.invariant.few
