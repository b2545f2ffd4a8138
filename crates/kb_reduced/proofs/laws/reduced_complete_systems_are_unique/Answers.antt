use Rattle.kb_word.specs.Words.{Pair}
use Rattle.kb_word.specs.WordOrders.{Below}
use Rattle.kb_word.specs.WordOrderLaws.{word_orders}
use Rattle.kb_reduced.proofs.Sorted.{sorted_same}
use Rattle.kb_reduced.proofs.laws.reduced_complete_systems_are_unique.Goals as goal

pub returns : goal.returns
returns c order pairs rules others reduced other =
    let laws = word_orders order in
    sorted_same (λ (p q : Pair). Below order p.0 q.0) (λ x. laws.irreflexive x.0) (λ x y z. laws.transitive x.0 y.0 z.0) rules others
    reduced.sorted other.sorted (λ rule one. other.all rule (reduced.each rule one)) (λ rule one. reduced.all rule (other.each rule one))
