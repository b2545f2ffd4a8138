use Rattle.std.proofs.Common.{sym, subst}
use Rattle.std.proofs.lemmas.Result.{IfOk-weaker}
use Rattle.kb_kept.specs.declared.equality.Equality.{Equality}
use Rattle.kb_structure.specs.declared.cert.Cert.{Cert}
use Rattle.kb_structure.specs.declared.cert.Cert.TheVariants.{N5, N6, N8}
use Rattle.kb_round.specs.Rounds.{ShowsEquality}
use Rattle.kb_round.specs.Rounds.ShowsEquality.{broken, no_extension, two_images}
use Rattle.kb_round.proofs.showing.equality_of.Goals as goal

pub returns-in-N5 : goal.returns-in-N5
returns-in-N5 g c =
    let rules = g.R.Reducer.rules c.args.reducer.now in
    let C : Cert → Type 0 = λ cert. ShowsEquality rules cert c.equality_between.result in
    let S : Equality → Type 0 = λ equality. ShowsEquality rules (N5 c.in-N5.x c.in-N5.u c.in-N5.v c.in-N5.other) equality in
    subst C (sym c.in-N5.is) (subst S (sym c.equality_between.ensures) two_images)

pub returns-in-N6 : goal.returns-in-N6
returns-in-N6 g c =
    let rules = g.R.Reducer.rules c.args.reducer.now in
    IfOk-weaker c.without_extension.result _ _
    (λ equality is.
    let C : Cert → Type 0 = λ cert. ShowsEquality rules cert equality in
    let S : Equality → Type 0 = λ other. ShowsEquality rules (N6 c.in-N6.x c.in-N6.prefix) other in
    subst C (sym c.in-N6.is) (subst S (sym is) no_extension))
    c.without_extension.ensures

pub returns-in-N8 : goal.returns-in-N8
returns-in-N8 g c =
    let rules = g.R.Reducer.rules c.args.reducer.now in
    let C : Cert → Type 0 = λ cert. ShowsEquality rules cert c.equality_between-in-N8.result in
    let S : Equality → Type 0 = λ equality. ShowsEquality rules (N8 c.in-N8.relation c.in-N8.u c.in-N8.a c.in-N8.b) equality in
    subst C (sym c.in-N8.is) (subst S (sym c.equality_between-in-N8.ensures) broken)
