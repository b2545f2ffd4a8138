use Rattle.kb_word.specs.WordOrderLaws.{word_orders}
use Rattle.kb_reduced.proofs.Covering.{covering_confluent, covering_same}
use Rattle.kb_reduced.proofs.laws.rules_that_cover_are_confluent.Goals as goal

pub returns-clause-confluent : goal.returns-clause-confluent
returns-clause-confluent c order live lines falling confluent more_falling kept covers =
    covering_confluent (word_orders order) live lines falling confluent more_falling kept covers

pub returns-clause-same : goal.returns-clause-same
returns-clause-same c live lines kept covers = covering_same live lines kept covers
