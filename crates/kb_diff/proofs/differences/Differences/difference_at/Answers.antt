use Rattle.std.proofs.Common.{ℕ, ◌<◌, ◌≤◌, List, sym, subst}
use Rattle.std.proofs.lemmas.List.Elements.{All-append, All-take}
use Rattle.kb_word.specs.Relations.{IsOver}
use Rattle.kb_diff.specs.Kept.{KeptDifferences}
use Rattle.kb_diff.proofs.OverGenerators.{inverse_over, normal_over}
use Rattle.kb_diff.proofs.differences.Differences.difference_at.Goals as goal

pub returns-clause-over : goal.returns-clause-over
returns-clause-over g c =
    let n = c.self.inside.presentation.n in
    let v = c.args.v.now in
    let inverse = c.in_ok-difference.difference in
    let L : ℕ → Type 0 = λ x. (0 < x) × (x ≤ n) in
    let V : KeptDifferences → Type 0 = λ kept. IsOver kept.group.n v in
    let D : KeptDifferences → Type 0 = λ kept. IsOver kept.group.n c.reduce.new.w in
    let O : List ℕ → Type 0 = λ w. IsOver n w in
    let front : IsOver n inverse =
    inverse_over n c.self.inside.presentation.inv c.in_ok-prefix.prefix inverse c.self.invariant.within_letters c.in_ok-difference.ensures in
    let rest : IsOver n c.in_ok-other.other = subst O (sym c.in_ok-other.ensures) (All-take L c.args.place v (subst V (sym c.self.view_is) c.requires.second)) in
    let whole : IsOver n c.append.new.self = subst O (sym c.in_ok-append.ensures.ok) (All-append L inverse c.in_ok-other.other front rest) in
    subst D c.self.view_is
    (normal_over n (g.R.Reducer.rules c.self.inside.reducer) c.append.new.self c.reduce.new.w c.self.invariant.letters c.in_ok-reduce.ensures.ok whole)
