use Rattle.std.proofs.Common.{ℕ, List, length, sym, ap, subst, arith}
use Rattle.std.proofs.lemmas.Bool.{false≢true}
use Rattle.kb_labels.specs.Unequal.{IsOther}
use Rattle.kb_labels.proofs.search.Search.goes_wrong.Goals as goal

pub invariant_of-seconds-2-clause-over : goal.invariant_of-seconds-2-clause-over
invariant_of-seconds-2-clause-over g c =
    λ k d less. let empty = ap length c.new-first.ensures in absurd (let no : ⊥ = omega arith in no)

pub returns : goal.returns
returns g c =
    let it = c.args.self.now in
    let none = rw c.in-None.is at c.in_ok-least.ensures.none in (
      λ no. absurd (false≢true no),
      λ wrong.
          let P : List ℕ → Type 0 = λ w. IsOther it.presentation.now.n (g.R.Reducer.rules it.reducer.now) it.multiplier.now.table
          c.args.config.now.state w c.args.config.now.label it.end.now wrong.0 in
          absurd (none wrong.0 (subst P (sym c.new-first.ensures) wrong.1)),
    )
