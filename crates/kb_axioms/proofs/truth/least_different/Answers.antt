use Rattle.std.proofs.Common.{List, [], subst}
use Rattle.kb_word.specs.Words.{Pair}
use Rattle.kb_word.specs.WordOrders.{Below}
use Rattle.kb_word.specs.Rewriting.{AreDecreasing}
use Rattle.kb_axioms.proofs.Different.{equal_sides, least_different, none_different, one_normal_form}
use Rattle.kb_axioms.proofs.truth.least_different.Goals as goal

pub unreachable-requires : goal.unreachable-requires
unreachable-requires g c =
    let presentation = c.args.presentation.now in
    let rules = g.R.Reducer.rules c.args.reducer.now in
    let order = c.list.result.now.order in
    let D : List Pair → Type 0 = λ rs. AreDecreasing (Below order) rs in
    let decreasing = subst D c.list.ensures.rules c.as_slice-rules.ensures.decreasing in
    let found = c.in_ok-pair.ensures.none (equal_sides presentation rules order decreasing c.requires.confluent)
    (one_normal_form presentation rules order decreasing c.requires.confluent) in
    let none = rw c.in-None.is at found in
    c.requires.there
    (none_different presentation rules order decreasing c.requires.confluent c.args.multiplier.now c.args.x c.requires.alphabet none (λ state. []))

pub returns : goal.returns
returns g c =
    let presentation = c.args.presentation.now in
    let rules = g.R.Reducer.rules c.args.reducer.now in
    let order = c.list.result.now.order in
    let D : List Pair → Type 0 = λ rs. AreDecreasing (Below order) rs in
    let decreasing = subst D c.list.ensures.rules c.as_slice-rules.ensures.decreasing in
    let found = c.in_ok-pair.ensures.found (equal_sides presentation rules order decreasing c.requires.confluent)
    (one_normal_form presentation rules order decreasing c.requires.confluent) in
    let least = rw c.in-Some.is at found in
    least_different presentation rules order decreasing c.requires.confluent c.args.multiplier.now c.args.x c.requires.alphabet
    c.in-Some.pair.0 c.in-Some.pair.1 least
