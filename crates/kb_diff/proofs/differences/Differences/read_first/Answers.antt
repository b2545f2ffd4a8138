use Rattle.std.proofs.Common.{◌≡◌, ◌++◌, ℕ, List, ap, ◌∙◌, subst}
use Rattle.kb_word.specs.Rewriting.{NormalForm}
use Rattle.kb_diff.specs.Kept.{KeptDifferences}
use Rattle.kb_diff.specs.Tables.{IsFront, listed}
use Rattle.kb_diff.proofs.Reading.{on_ok_more, listed_slice}
use Rattle.kb_diff.proofs.differences.Differences.read_first.Goals as goal

pub returns : goal.returns
returns g c =
    let d = c.args.difference.now in
    let front = c.reduce.new.w in
    let rules = g.R.Reducer.rules c.self.inside.reducer in
    let K : KeptDifferences → Type 0 = λ kept. IsFront kept.group d c.args.first front in
    let P : List ℕ → Type 0 = λ w. NormalForm rules w front in
    let word = c.append.new.self in
    let inverse = listed c.inverse_of_letter-inverse.result in
    let is : word ≡ inverse ++ d =
    (c.in_ok-append.ensures.ok ∙ ap (λ (w : List ℕ). w ++ d) (c.in_ok-extend_from_slice.ensures
    ∙ ap (λ (w : List ℕ). w ++ c.as_slice.result.now) c.clear.ensures ∙ listed_slice c.inverse_of_letter-inverse.result c.as_slice.result.now c.as_slice.ensures)) in
    on_ok_more (NormalForm rules word front) (IsFront c.args.self.now.group d c.args.first front) c.reduce.result
    (λ normal. subst K c.self.view_is (record {
      inverse = inverse;
      inverts = c.inverse_of_letter-inverse.ensures;
      normal = subst P is normal;
    }))
    c.reduce.ensures.ok
