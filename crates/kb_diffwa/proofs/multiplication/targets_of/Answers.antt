use Rattle.std.proofs.Common.{◌+◌, ℕ, List, sym, subst}
use Rattle.kb_diff.specs.Tables.{step_in}
use Rattle.kb_diffwa.specs.Multipliers.{AreTargets}
use Rattle.kb_diffwa.proofs.AllGenerators.{no_targets, targets_more}
use Rattle.kb_diffwa.proofs.multiplication.targets_of.Goals as goal

pub loop-index-init : goal.loop-index-init
loop-index-init c =
    let P : List ℕ → Type 0 = λ targets. AreTargets c.args.n (step_in c.args.machine.now) 0 targets in
    subst P (sym c.in_ok-targets.ensures.items) (no_targets c.args.n (step_in c.args.machine.now))

pub loop-index-preserved : goal.loop-index-preserved
loop-index-preserved c =
    let P : List ℕ → Type 0 = λ targets. AreTargets c.args.n (step_in c.args.machine.now) (c.loop-index.index + 1) targets in
    subst P (sym c.in_ok-push.ensures.items)
    (targets_more c.args.n (step_in c.args.machine.now) c.loop-index.index c.loop-index.targets.items c.step.result c.step.ensures
    c.loop-index.invariant)
