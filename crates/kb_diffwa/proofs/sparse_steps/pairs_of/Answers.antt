use Rattle.std.proofs.Common.{◌≡◌, ℕ, ◌+◌, List, [], ◌∷◌, ◌++◌, sym, ◌∙◌, subst, arith, rules}
use Rattle.kb_diff.specs.Tables.{step_in}
use Rattle.kb_diffwa.proofs.StepPairs.{ArePairsUpTo, all_pairs, no_pair, one_pair}
use Rattle.kb_diffwa.proofs.sparse_steps.pairs_of.Goals.{then-target-ne0+in_ok-push, else-target-ne0}
use Rattle.kb_diffwa.proofs.sparse_steps.pairs_of.Goals as goal

pub loop-index-preserved : goal.loop-index-preserved
loop-index-preserved c =
    let n = c.args.n in
    let step = step_in c.args.machine.now in
    let d = c.args.difference in
    let a = c.args.a in
    let bound = c.loop-index.index in
    let pairs = c.loop-index.pairs.items in
    let target = c.step-target.result in
    let P : List (ℕ × ℕ) → Type 0 = ArePairsUpTo n step d a (bound + 1) in
    elim c.if-target-ne0.branch [
      | then-target-ne0+in_ok-push w ↦
          let more : c.if-target-ne0.pairs.items ≡ pairs ++ (bound + 1, target) ∷ [] = search rules in
          subst P (sym more)
          (one_pair n step d a bound target pairs c.loop-index-test.true (sym c.step-target.ensures) (omega (arith, w.if-target-ne0.true))
          c.loop-index.invariant)
      | else-target-ne0 w ↦
          let same : c.if-target-ne0.pairs.items ≡ pairs = search rules in
          subst P (sym same)
          (no_pair n step d a bound pairs (sym c.step-target.ensures ∙ (let none : target ≡ 0 = omega (arith, w.if-target-ne0.false) in none))
          c.loop-index.invariant)
    ]

pub returns : goal.returns
returns c =
    let end : c.loop-index.index ≡ c.args.n + 1 = omega arith in
    let step = step_in c.args.machine.now in
    let P : ℕ → Type 0 = λ bound. ArePairsUpTo c.args.n step c.args.difference c.args.a bound c.loop-index.pairs.items in
    all_pairs c.args.n step c.args.difference c.args.a c.loop-index.pairs.items (subst P end c.loop-index.invariant)
