use Rattle.kb_rules.proofs.Reducts.{normal_form_reduct, normal_form_congruent}
use Rattle.kb_rules.proofs.laws.a_normal_form_is_a_reduct.Goals as goal

pub returns-clause-reduct : goal.returns-clause-reduct
returns-clause-reduct c rules w m normal = normal_form_reduct normal

pub returns-clause-congruent : goal.returns-clause-congruent
returns-clause-congruent c rules w m normal = normal_form_congruent normal
