use Rattle.kb_presfile.proofs.OneFault.{one_fault_of_fields}
use Rattle.kb_presfile.proofs.laws.fields_have_one_fault.Goals as goal

pub returns : goal.returns
returns c given one other a b = one_fault_of_fields given one other a b
