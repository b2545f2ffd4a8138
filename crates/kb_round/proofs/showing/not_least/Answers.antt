use Rattle.std.proofs.Common.{ℕ, List, sym, subst}
use Rattle.kb_word.specs.Rewriting.{NormalForm}
use Rattle.kb_kept.specs.declared.equality.Equality.{Equality}
use Rattle.kb_structure.specs.declared.cert.Cert.TheVariants.{N7}
use Rattle.kb_round.specs.Rounds.{ShowsEquality}
use Rattle.kb_round.specs.Rounds.ShowsEquality.{not_least as shows_not_least}
use Rattle.kb_round.proofs.showing.not_least.Goals as goal

pub returns : goal.returns
returns g c =
    let rules = g.R.Reducer.rules c.args.reducer.now in
    let P : List ℕ → Type 0 = λ w. NormalForm rules w c.in_ok-least.least in
    let S : Equality → Type 0 = λ equality. ShowsEquality rules (N7 c.args.x c.args.u c.args.v) equality in
    subst S (sym c.equality_between.ensures) (shows_not_least (subst P c.in_ok-extended.ensures c.in_ok-least.ensures))
