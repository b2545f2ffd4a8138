use Rattle.std.proofs.Common.{◌≡◌, ◌++◌, ℕ, List, ap, ◌∙◌, subst}
use Rattle.kb_word.specs.Rewriting.{NormalForm}
use Rattle.kb_fsa.specs.Padding.{letters_of}
use Rattle.kb_diff.specs.Kept.{KeptDifferences}
use Rattle.kb_diff.proofs.Reading.{listed_slice}
use Rattle.kb_diff.proofs.differences.Differences.target.Goals as goal

pub returns-clause-target : goal.returns-clause-target
returns-clause-target g c =
    let front = c.args.scratch.now.front in
    let second = c.args.second in
    let word = c.reduce.new.w in
    let slice = c.as_slice.result.now in
    let letters = listed_slice c.letter_of-letter.result slice c.as_slice.ensures ∙ c.letter_of-letter.ensures in
    let is : c.extend_from_slice.new.self ≡ front ++ letters_of c.self.inside.presentation.n second =
    c.in_ok-extend_from_slice.ensures ∙ ap (λ (w : List ℕ). w ++ slice) c.in_ok-assign.ensures.ok ∙ ap (λ (w : List ℕ). front ++ w) letters in
    let N : List ℕ → Type 0 = λ w. NormalForm (g.R.Reducer.rules c.self.inside.reducer) w word in
    let K : KeptDifferences → Type 0 = λ kept. NormalForm kept.group.rules (front ++ letters_of kept.group.n second) word in
    record {
      word = word;
      normal = subst K c.self.view_is (subst N is c.in_ok-reduce.ensures.ok);
      number = c.number_of.ensures;
    }
