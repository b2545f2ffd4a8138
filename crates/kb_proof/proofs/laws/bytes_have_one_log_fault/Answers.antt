use Rattle.kb_proof.proofs.OneFault.{one_fault}
use Rattle.kb_proof.proofs.laws.bytes_have_one_log_fault.Goals as goal

pub returns : goal.returns
returns c names bytes one other = one_fault names bytes one other
