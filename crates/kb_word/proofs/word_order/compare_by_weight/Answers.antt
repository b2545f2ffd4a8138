use Rattle.std.proofs.Common.{◌≡◌, ap, ap₂, sym, ◌∙◌, rules}
use Rattle.std.specs.Ordering.{nat_cmp, ordering_then}
use Rattle.std.specs.Cmp.Lexicographic.{slice_cmp}
use Rattle.kb_word.specs.Weights.{word_weight}
use Rattle.kb_word.proofs.ComparisonLemmas.{answer_by_weight}
use Rattle.kb_word.proofs.word_order.compare_by_weight.Goals as goal

pub returns : goal.returns
returns c =
    let weights = c.args.weights.now in
    let u = c.args.u.now in
    let v = c.args.v.now in
    let is : c.then.result ≡ ordering_then (nat_cmp (word_weight weights u) (word_weight weights v)) (slice_cmp nat_cmp u v) = search rules in
    answer_by_weight weights u v _ is
