use Rattle.std.proofs.Common.{◌≡◌, ℕ, ◌+◌, List, [], ◌∷◌, ◌++◌, sym, ap, ◌∙◌, subst}
use Rattle.kb_diff.specs.Tables.{step_in}
use Rattle.kb_diffwa.specs.RivalSets.{AreStepsBy, Steps}
use Rattle.kb_diffwa.proofs.StepPairs.{more_steps}
use Rattle.kb_diffwa.proofs.sparse_steps.steps_by.Goals as goal

pub loop-index-preserved : goal.loop-index-preserved
loop-index-preserved c =
    let n = c.args.n in
    let step = step_in c.args.machine.now in
    let count = c.loop-index.index in
    let pairs = c.in_ok-pairs.pairs.items in
    let steps = c.loop-index.steps in
    let pushed : c.push.new.self ≡ steps ++ pairs ∷ [] =
    c.in_ok-push.ensures.pushed ∙ ap (λ (list : List (ℕ × ℕ)). steps ++ list ∷ []) c.as_slice.ensures.value in
    let P : Steps → Type 0 = AreStepsBy n step (count + 1) c.args.a in
    subst P (sym pushed) (more_steps n step count c.args.a steps pairs c.loop-index.invariant c.in_ok-pairs.ensures)
