use Rattle.std.proofs.Common.{◌∙◌}
use Rattle.kb_reduced.proofs.Found.{own_normal_form}
use Rattle.kb_reduced.proofs.minimal.is_irreducible.Goals as goal

pub returns : goal.returns
returns g c =
    own_normal_form (g.R.Reducer.rules c.args.reducer.now) c.args.letters.now _ _ c.eq-2.result
    (c.from_vec-word.ensures ∙ c.in_ok-from_slice.ensures.items) c.in_ok-nf.ensures c.eq-2.ensures.same
