use Rattle.std.proofs.Common.{◌<◌, ℕ, below_more, subst, arith}
use Rattle.std.proofs.lemmas.List.{get_or_default}
use Rattle.kb_fsa.specs.Graphs.{IsMarked}
use Rattle.kb_count.proofs.Settling.{unsettled-at}
use Rattle.kb_count.proofs.totals.lead_to_settled.Goals as goal

pub returns-then-not-settled-target-clause-some : goal.returns-then-not-settled-target-clause-some
returns-then-not-settled-target-clause-some c = λ no.
    unsettled-at c.args.settled.now c.args.row.now c.loop-target.target-index c.loop-target-test.true
    c.if-not-settled-target.true

pub loop-target-preserved : goal.loop-target-preserved
loop-target-preserved c = below_more _ _ c.loop-target.invariant c.if-not-settled-target.false

pub returns-clause-all : goal.returns-clause-all
returns-clause-all c = λ yes k d within.
    subst (λ (m : ℕ × ℕ). IsMarked c.args.settled.now m.1) (get_or_default c.args.row.now k (0, 0) d within)
    (c.loop-target.invariant k (let below : k < c.loop-target.target-index = omega arith in below))
