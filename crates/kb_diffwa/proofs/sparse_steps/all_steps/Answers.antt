use Rattle.std.proofs.Common.{◌≡◌, ◌<◌, ℕ, suc, ◌+◌, List, [], ◌∷◌, ◌++◌, get_or, length, sym, ap, ◌∙◌, subst, arith, length-append}
use Rattle.kb_diff.specs.Tables.{step_in}
use Rattle.kb_diffwa.specs.RivalSets.{AreStepsBy, Steps}
use Rattle.kb_diffwa.proofs.StepPairs.{more_letters}
use Rattle.kb_diffwa.proofs.sparse_steps.all_steps.Goals as goal

pub loop-index-preserved : goal.loop-index-preserved
loop-index-preserved c =
    let n = c.args.n in
    let step = step_in c.args.machine.now in
    let letter = c.loop-index.index in
    let letters = c.loop-index.letters.items in
    let steps = c.in_ok-steps_by.field-0 in
    let is : c.push.new.self.items ≡ letters ++ steps ∷ [] = c.in_ok-push.ensures.items in
    let long = c.loop-index.invariant.long in
    let P : List Steps → Type 0 = λ all.
    (index : ℕ) → index < letter + 1 → AreStepsBy n step c.args.differences (suc index) (get_or all index []) in record {
      long = ap length is ∙ omega (arith, length-append letters (steps ∷ []));
      each = subst P (sym is)
          (more_letters n step c.args.differences letter letters steps long c.loop-index.invariant.each c.in_ok-steps_by.ensures);
    }
