use Rattle.kb_word.specs.WordOrderLaws.{word_orders}
use Rattle.kb_reduced.proofs.Complete.{reduced_complete, no_factors, reduced_normal_least, reduced_irreducible_least, least_reduced_irreducible}
use Rattle.kb_reduced.proofs.laws.reduced_complete_systems_are_complete.Goals as goal

pub returns-clause-complete : goal.returns-clause-complete
returns-clause-complete c order pairs rules reduced = reduced_complete (word_orders order) pairs rules reduced

pub returns-clause-no_factors : goal.returns-clause-no_factors
returns-clause-no_factors c order pairs rules reduced = no_factors (word_orders order) pairs rules reduced

pub returns-clause-least : goal.returns-clause-least
returns-clause-least c order pairs rules w m reduced normal = reduced_normal_least (word_orders order) pairs rules reduced w m normal

pub returns-clause-irreducible : goal.returns-clause-irreducible
returns-clause-irreducible c order pairs rules w reduced = (
  λ irreducible. reduced_irreducible_least (word_orders order) pairs rules reduced w irreducible,
  λ least. least_reduced_irreducible (word_orders order) pairs rules reduced w least,
)
