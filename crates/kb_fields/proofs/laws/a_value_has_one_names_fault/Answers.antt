use Rattle.kb_fields.proofs.NameFaults.{one_names_fault}
use Rattle.kb_fields.proofs.laws.a_value_has_one_names_fault.Goals as goal

pub returns : goal.returns
returns c value one other a b given_one given_other = one_names_fault value one other a b given_one given_other
