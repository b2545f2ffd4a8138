use Rattle.std.proofs.Common.{sym, subst}
use Rattle.kb_fsabool.specs.Products.{IsLeastSymbol}
use Rattle.kb_fsabool.proofs.RowMerges.{least_of_two, least_of_first, least_of_second}
use Rattle.kb_fsabool.proofs.merging.least_symbol.Goals as goal

pub returns-in-Some-Some-clause-some : goal.returns-in-Some-Some-clause-some
returns-in-Some-Some-clause-some c =
    let least = least_of_two c.args.first.now c.args.second.now c.in-Some-Some.one.now c.in-Some-Some.two.now c.requires.first c.requires.second
    (sym c.in-Some-Some.ensures.value) (sym c.in-Some-Some.ensures'.value) in
    subst (IsLeastSymbol c.args.first.now c.args.second.now) (sym c.min.ensures) least

pub returns-in-Some-None-clause-some : goal.returns-in-Some-None-clause-some
returns-in-Some-None-clause-some c =
    least_of_first c.args.first.now c.args.second.now c.in-Some-None.one.now c.requires.first
    (sym c.in-Some-None.ensures.value) (sym c.in-Some-None.ensures'.value)

pub returns-in-None-Some-clause-some : goal.returns-in-None-Some-clause-some
returns-in-None-Some-clause-some c =
    least_of_second c.args.first.now c.args.second.now c.in-None-Some.two.now c.requires.second
    (sym c.in-None-Some.ensures.value) (sym c.in-None-Some.ensures'.value)
