use Rattle.kb_cmd_words.specs.ByRelationsLaws.{confluent-not_refuted}
use Rattle.kb_cmd_words.proofs.laws.no_presentation_is_confluent_and_not.Goals as goal

pub returns : goal.returns
returns c = confluent-not_refuted
