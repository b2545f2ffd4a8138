use Rattle.std.proofs.Common.{ℕ, List, subst}
use Rattle.kb_word.specs.Rewriting.{NormalForm}
use Rattle.kb_round.specs.Rounds.ShowsEquality.{no_image}
use Rattle.kb_round.proofs.showing.without_image.Goals as goal

pub returns : goal.returns
returns g c =
    let P : List ℕ → Type 0 = λ w. NormalForm (g.R.Reducer.rules c.args.reducer.now) w c.in_ok-v.v in
    no_image (subst P c.in_ok-extended.ensures c.in_ok-v.ensures)
