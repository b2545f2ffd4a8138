use Rattle.std.proofs.Common.{◌≡◌, ℕ, List, Err, sym, ap, subst, rules}
use Rattle.kb_explore.specs.declared.det.Det.TheVariants.{TooManyStates}
use Rattle.kb_explore.specs.Exploration.{AreFromEarlier, IsTraced}
use Rattle.kb_fsabool.specs.declared.connective.Connective.TheVariants.{Xor}
use Rattle.kb_fsabool.specs.Answers.{IsLeastDifference}
use Rattle.kb_fsabool.proofs.ProductLemmas.{states_counted}
use Rattle.kb_fsabool.proofs.Differences.{same_language, is_traced, least_difference}
use Rattle.kb_fsabool.proofs.comparison.equal.Goals as goal

pub returns-in_err-exploration-clause-many : goal.returns-in_err-exploration-clause-many
returns-in_err-exploration-clause-many c = λ most e.
    let same : c.in_err-exploration.field-0.0 ≡ TooManyStates most = search rules in
    let many = c.in_err-exploration.ensures.many most (ap Err same) in
    (many.0, (states_counted Xor c.args.one.now.table c.args.two.now.table c.args.limit).0 many.1)

pub text_to-requires-clause-traced : goal.text_to-requires-clause-traced
text_to-requires-clause-traced c =
    let traced = is_traced c.args.one.now c.args.two.now c.in_ok-exploration.ensures.explored c.in-Some.state c.in-Some.ensures.some.accepts in
    let P : List (ℕ × ℕ) → Type 0 = λ origins. (text : List ℕ) × IsTraced origins c.in-Some.state text in
    subst P (sym c.as_slice.ensures.value) traced

pub text_to-requires-clause-from_earlier : goal.text_to-requires-clause-from_earlier
text_to-requires-clause-from_earlier c =
    let P : List (ℕ × ℕ) → Type 0 = λ origins. AreFromEarlier origins in
    subst P (sym c.as_slice.ensures.value) c.in_ok-exploration.ensures.explored.from_earlier

pub returns-in-Some-clause-comparison : goal.returns-in-Some-clause-comparison
returns-in-Some-clause-comparison c =
    let one = c.args.one.now in let two = c.args.two.now in
    let text = c.in_ok-text-in-Some.text.items in
    let P : List (ℕ × ℕ) → Type 0 = λ origins. IsTraced origins c.in-Some.state text in
    let traced = subst P c.as_slice.ensures.value c.in_ok-text-in-Some.ensures in
    subst (IsLeastDifference one two) (sym c.from_vec.ensures)
    (least_difference one two c.in_ok-exploration.ensures.explored c.in-Some.state text c.in-Some.ensures.some traced)

pub returns-in-Some-clause-few : goal.returns-in-Some-clause-few
returns-in-Some-clause-few c = λ ok more.
    c.in_ok-exploration.ensures.few ok ((states_counted Xor c.args.one.now.table c.args.two.now.table c.args.limit).1 more)

pub returns-clause-comparison : goal.returns-clause-comparison
returns-clause-comparison c = same_language c.args.one.now c.args.two.now c.in_ok-exploration.ensures.explored c.in-None.ensures.none

pub returns-clause-few : goal.returns-clause-few
returns-clause-few c = λ ok more.
    c.in_ok-exploration.ensures.few ok ((states_counted Xor c.args.one.now.table c.args.two.now.table c.args.limit).1 more)
