use Rattle.std.proofs.Common.{◌≡◌, ℕ, length, refl, subst, arith}
use Rattle.std.proofs.lemmas.Option.{slice_get_read}
use Rattle.kb_reduced.specs.Minimal.{HasMinimal}
use Rattle.kb_reduced.proofs.Found.{has_more}
use Rattle.kb_reduced.proofs.minimal.minimal_rules.Goals as goal

pub loop-rule-preserved : goal.loop-rule-preserved
loop-rule-preserved g c =
    let rules = c.args.rules.now in
    let index = c.loop-rule.rule-index in
    let old = c.rule-item.result in
    has_more rules (g.R.Reducer.rules c.args.reducer.now) index old c.loop-rule.minimal.items c.add_minimal.new.minimal.items
    c.requires.reducer (slice_get_read rules _ index old refl c.loop-rule-test.true c.rule-item.is) c.in_ok-add_minimal.ensures
    c.loop-rule.invariant

pub returns : goal.returns
returns g c =
    let P : ℕ → Type 0 = λ index. HasMinimal c.args.rules.now index c.loop-rule.minimal.items in
    let end : c.loop-rule.rule-index ≡ length c.args.rules.now = omega (arith, c.loop-rule-test.false, c.loop-rule.auto.rule-index-end) in
    subst P end c.loop-rule.invariant
