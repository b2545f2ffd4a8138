use Rattle.kb_word.specs.WordOrderLaws.{word_orders}
use Rattle.kb_rules.proofs.Exists.{normal_form_exists}
use Rattle.kb_rules.proofs.laws.normal_forms_exist.Goals as goal

pub returns : goal.returns
returns c order rules w decreasing = normal_form_exists (word_orders order) rules decreasing w
