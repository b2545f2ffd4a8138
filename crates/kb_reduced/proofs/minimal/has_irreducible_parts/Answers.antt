use Rattle.std.proofs.lemmas.Result.{IfOk-weaker}
use Rattle.kb_reduced.proofs.Found.{both_parts}
use Rattle.kb_reduced.proofs.minimal.has_irreducible_parts.Goals as goal

pub returns : goal.returns
returns g c =
    let rules = g.R.Reducer.rules c.args.reducer.now in
    IfOk-weaker c.is_irreducible-2.result _ _
    (λ answer. both_parts rules c.args.w.now c.letters-letters.result.now c.behind_first.result.now c.before_last.result.now
    c.in_ok-is_irreducible.field-0 answer c.letters-letters.ensures.letters c.behind_first.ensures c.before_last.ensures
    c.in_ok-is_irreducible.ensures c.if-not-branch.false)
    c.is_irreducible-2.ensures
