use Rattle.kb_word.specs.WordOrderLaws.{word_orders}
use Rattle.kb_rules.proofs.Reducts.{reduct_congruent, reduct_at_most}
use Rattle.kb_rules.proofs.laws.reducts_are_congruent_and_not_greater.Goals as goal

pub returns-clause-congruent : goal.returns-clause-congruent
returns-clause-congruent c rules u v reduces = reduct_congruent reduces

pub returns-clause-not_greater : goal.returns-clause-not_greater
returns-clause-not_greater c order rules u v decreasing reduces = reduct_at_most (word_orders order) decreasing reduces
