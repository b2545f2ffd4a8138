use Rattle.std.proofs.Common.{◌+◌, ◌-◌, ◌%◌, ◌<◌, ℕ, Option, sym, subst}
use Rattle.std.specs.Option.{IfSome}
use Rattle.kb_fsarat.specs.Layers.{ComesRound}
use Rattle.kb_fsarat.proofs.LayerLemmas.{comes_round}
use Rattle.kb_fsarat.proofs.layers.place_of.Goals as goal

pub returns-in-Some-clause-some : goal.returns-in-Some-clause-some
returns-in-Some-clause-some c =
    let kept = c.args.kept in
    let k = c.args.length in
    let from = c.in-Some.start in
    let Before : Option ℕ → Type 0 = λ o. IfSome o (λ start. start < kept) in
    let Comes : Option ℕ → Type 0 = λ o. IfSome o (λ start. ComesRound start kept k (from + (k - from) % (kept - from))) in
    subst Comes (sym c.in-Some.is) (comes_round from kept k (subst Before c.in-Some.is c.requires.start) c.if-kept-length.true)
