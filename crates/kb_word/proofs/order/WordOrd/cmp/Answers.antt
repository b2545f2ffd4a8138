use Rattle.std.proofs.Common.{◌≡◌, rules}
use Rattle.kb_word.specs.Comparison.{shortlex_cmp}
use Rattle.kb_word.proofs.ComparisonLemmas.{answer_less}
use Rattle.kb_word.proofs.order.WordOrd.cmp.Goals as goal

pub returns-clause-less : goal.returns-clause-less
returns-clause-less c =
    let answer : c.then.result ≡ shortlex_cmp c.args.self.now c.args.other.now = search rules in answer_less _ _ _ answer
