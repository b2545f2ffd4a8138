use Rattle.std.proofs.Common.{ℕ, List, sym, subst}
use Rattle.kb_word.specs.Rewriting.{NormalForm}
use Rattle.kb_reduced.specs.Minimal.{AddsMinimal}
use Rattle.kb_reduced.proofs.Found.{added_rule}
use Rattle.kb_reduced.proofs.minimal.add_minimal.Goals as goal

pub returns-in_ok-push : goal.returns-in_ok-push
returns-in_ok-push g c =
    let rules = g.R.Reducer.rules c.args.reducer.now in
    let P : List ℕ → Type 0 = λ w. AddsMinimal rules w c.args.minimal.now.items c.push.new.self.items in
    let N : List ℕ → Type 0 = λ w. NormalForm rules c.left-left.result.now w in
    let normal = subst N (sym c.in_ok-right.ensures) c.in_ok-normal.ensures in
    subst P c.left-left.ensures
    (added_rule _ _ _ _ _ _ _ _ c.in_ok-has_irreducible_parts.ensures c.if-branch.true normal c.in_ok-copy.ensures c.new.ensures
    c.in_ok-push.ensures.items)
