use Rattle.std.proofs.Common.{length, refl, ◌∙◌, arith}
use Rattle.std.proofs.lemmas.Option.{slice_get_read}
use Rattle.kb_overlap.proofs.Indexing.{listed_none, listed_more, listed_all}
use Rattle.kb_overlap.proofs.left_sides.listed.Goals as goal

pub loop-rule-init : goal.loop-rule-init
loop-rule-init c = rw c.in_ok-sides.ensures.items (listed_none c.args.rules.now)

pub loop-rule-preserved : goal.loop-rule-preserved
loop-rule-preserved c =
    listed_more c.args.rules.now c.loop-rule.rule c.loop-rule.sides.items c.push.new.self.items _ c.index-rules-rule.result
    (slice_get_read c.args.rules.now (length c.args.rules.now) c.loop-rule.rule c.index-rules-rule.result refl c.loop-rule-test.true
    c.index-rules-rule.is)
    refl (c.letters.ensures.letters ∙ c.left.ensures) c.in_ok-push.ensures.items c.loop-rule.invariant

pub returns : goal.returns
returns c = listed_all c.args.rules.now c.loop-rule.rule c.loop-rule.sides.items (omega arith) c.loop-rule.invariant
