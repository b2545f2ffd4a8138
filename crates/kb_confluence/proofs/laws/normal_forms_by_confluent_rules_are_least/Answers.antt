use Rattle.kb_word.specs.WordOrderLaws.{word_orders}
use Rattle.kb_rules.proofs.Reducts.{normal_form_congruent}
use Rattle.kb_confluence.proofs.LeastWords.{normal_form_least}
use Rattle.kb_confluence.proofs.laws.normal_forms_by_confluent_rules_are_least.Goals as goal

pub returns : goal.returns
returns c order rules w m decreasing confluent normal = record {
  congruent = normal_form_congruent normal;
  least = normal_form_least (word_orders order) rules decreasing confluent w m normal;
}
