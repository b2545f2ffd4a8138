use Rattle.std.proofs.Common.{◌≡◌, nat_eq, rules}
use Rattle.std.specs.Cmp.Lexicographic.{pointwise}
use Rattle.kb_word.proofs.ComparisonLemmas.{answer_same}
use Rattle.kb_word.proofs.order.WordPartialEq.eq.Goals as goal

pub returns-clause-same : goal.returns-clause-same
returns-clause-same c =
    let answer : c.eq.result ≡ pointwise nat_eq c.args.self.now c.args.other.now = search rules in answer_same _ _ _ answer
