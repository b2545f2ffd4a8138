use Rattle.kb_rules.proofs.Unique.{normal_form_unique}
use Rattle.kb_rules.proofs.laws.normal_forms_are_unique.Goals as goal

pub returns : goal.returns
returns c rules w m n first second = normal_form_unique first second
