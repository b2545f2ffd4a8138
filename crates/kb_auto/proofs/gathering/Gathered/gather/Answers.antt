use Rattle.std.proofs.Common.{List, sym, ◌∙◌, subst}
use Rattle.std.proofs.lemmas.Bool.{true≢false}
use Rattle.kb_word.specs.Words.{Pair, OneOf}
use Rattle.kb_word.specs.Rewriting.{IsIrreducible}
use Rattle.kb_auto.proofs.gathering.Gathered.gather.Goals as goal

pub gather_irreducible-requires-clause-first_is_irreducible : goal.gather_irreducible-requires-clause-first_is_irreducible
gather_irreducible-requires-clause-first_is_irreducible c =
    let P : List Pair → Type 0 = λ rules. IsIrreducible (OneOf rules) c.args.equality.u in
    subst P c.reducer.ensures (c.in_ok-are_irreducible.ensures.0 c.if-branch.true).0

pub gather_irreducible-requires-clause-second_is_irreducible : goal.gather_irreducible-requires-clause-second_is_irreducible
gather_irreducible-requires-clause-second_is_irreducible c =
    let P : List Pair → Type 0 = λ rules. IsIrreducible (OneOf rules) c.args.equality.v in
    subst P c.reducer.ensures (c.in_ok-are_irreducible.ensures.0 c.if-branch.true).1

pub returns-else-branch : goal.returns-else-branch
returns-else-branch c = λ first second.
    let P : List Pair → Type 0 = λ rules. IsIrreducible (OneOf rules) c.args.equality.u × IsIrreducible (OneOf rules) c.args.equality.v in
    absurd (true≢false (sym (c.in_ok-are_irreducible.ensures.1 (subst P (sym c.reducer.ensures) (first, second))) ∙ c.if-branch.false))
